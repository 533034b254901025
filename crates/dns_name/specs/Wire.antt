-- The name that bytes begin with.
use Rattle.std.specs.Prelude.{◌≡◌, ℕ, List, ◌++◌, length}
use Rattle.dns_name.specs.Labels.{wire, IsRawName, lowered}

-- The first n bytes are a name of these labels, whole and without pointers (RFC 1035, 3.1).
pub record BeginsWithName (bytes : List ℕ) (labels : List (List ℕ)) (n : ℕ) : Type 0 where
  pub raw : List (List ℕ)
  pub rest : List ℕ
  pub name : IsRawName raw
  pub spelled : bytes ≡ wire raw ++ rest
  pub size : n ≡ length (wire raw)
  pub same : labels ≡ lowered raw

-- they begin with no name
abbrev pub BeginsWithNone : List ℕ → Type 0
BeginsWithNone bytes = (labels : List (List ℕ)) (n : ℕ) → BeginsWithName bytes labels n → ⊥

-- they begin with no other name than this
abbrev pub BeginsWithOnly : List ℕ → List (List ℕ) → ℕ → Type 0
BeginsWithOnly bytes labels n =
    (others : List (List ℕ)) (m : ℕ) → BeginsWithName bytes others m → (others ≡ labels) × (m ≡ n)
