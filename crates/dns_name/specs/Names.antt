-- The labels of names.
use Rattle.std.specs.Prelude.{ℕ, ◌<◌, List}
use Rattle.std.specs.List.{AllByRecursion}
use Rattle.dns_name.specs.Labels.{IsRawName}
use Rattle.dns_name.specs.Stored.{IsLowerLabel}

-- octets: numbers below 256
abbrev pub AreOctets : List ℕ → Type 0
AreOctets label = AllByRecursion (λ b. b < 256) label

-- What the labels of every name are: 1 to 63 octets each, 255 in all on the wire, in lower case
-- (RFC 1035, 2.3.3 and 2.3.4).
pub record IsName (labels : List (List ℕ)) : Type 0 where
  pub raw : IsRawName labels
  pub lower : AllByRecursion IsLowerLabel labels
  pub octets : AllByRecursion AreOctets labels
