use Rattle.std.proofs.Common.{ℕ, ◌-◌, ◌≤◌, List, length, drop}
use Rattle.std.specs.Prelude.{◌↔◌}
use Rattle.dns_name.specs.Stored.{labels_of}
use Rattle.dns_name.specs.Suffix.{EndsWith}
use Rattle.dns_name.specs.Whole.{IsWire}
use Rattle.dns_name.proofs.walk.ends_with.Given as goal

-- The whole ends with the suffix exactly where the rest does.
pub record IsPassed (octets suffix : List ℕ) (at : ℕ) : Type 0 where
  pub rest : IsWire (drop at octets)
  pub within : at ≤ length octets
  pub same : EndsWith (labels_of octets) (labels_of suffix)
      ↔ EndsWith (labels_of (drop at octets)) (labels_of suffix)

abbrev pub invariant-loop-at : goal.invariant-loop-at
invariant-loop-at l = IsPassed l.octets l.suffix l.at

abbrev pub decreases-loop-at : goal.decreases-loop-at
decreases-loop-at l = length l.octets - l.at
