use Rattle.std.proofs.Common.{◌≡◌, ℕ, ◌≤◌, List, length, drop}
use Rattle.dns_name.specs.Stored.{labels_of}
use Rattle.dns_name.specs.Whole.{IsWire}
use Rattle.dns_name.proofs.walk.skip.Given as goal

-- So many labels are still to be passed, and the rest is a name.
pub record IsSkipped (octets : List ℕ) (at left labels : ℕ) : Type 0 where
  pub rest : IsWire (drop at octets)
  pub within : at ≤ length octets
  pub there : left ≤ length (labels_of (drop at octets))
  pub skipped : drop left (labels_of (drop at octets)) ≡ drop labels (labels_of octets)

abbrev pub invariant-loop-left : goal.invariant-loop-left
invariant-loop-left l = IsSkipped l.octets l.at l.left l.labels

abbrev pub decreases-loop-left : goal.decreases-loop-left
decreases-loop-left l = l.left
