-- The question of a query (RFC 1035, 4.1.2).
use Rattle.std.specs.Prelude.{◌≡◌, ℕ, ◌+◌, ◌≤◌, List, ◌++◌, length, drop}
use Rattle.dns_name.specs.Labels.{wire, IsRawName, lowered}
use Rattle.dns_name.specs.Wire.{BeginsWithName}

-- Behind the header stand a name of these labels without pointers, a type and a class, n octets in all.
pub record Asks (packet : List ℕ) (labels : List (List ℕ)) (n : ℕ) : Type 0 where
  pub name_len : ℕ
  pub name : BeginsWithName (drop 12 packet) labels name_len
  pub size : n ≡ name_len + 4
  pub whole : 12 + n ≤ length packet

abbrev pub HasNoQuestion : List ℕ → Type 0
HasNoQuestion packet = (labels : List (List ℕ)) (n : ℕ) → Asks packet labels n → ⊥

-- These octets are a question for this name, in either case: its labels, a type and a class.
pub record IsQuestion (name : List (List ℕ)) (question : List ℕ) : Type 0 where
  pub raw : List (List ℕ)
  pub type_and_class : List ℕ
  pub labels : IsRawName raw
  pub same : name ≡ lowered raw
  pub four : length type_and_class ≡ 4
  pub spelled : question ≡ wire raw ++ type_and_class
