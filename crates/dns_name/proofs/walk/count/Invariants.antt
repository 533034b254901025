use Rattle.std.proofs.Common.{◌≡◌, ℕ, ◌+◌, ◌-◌, ◌≤◌, List, length, drop}
use Rattle.dns_name.specs.Stored.{labels_of}
use Rattle.dns_name.specs.Whole.{IsWire}
use Rattle.dns_name.proofs.walk.count.Given as goal

-- The labels that are passed are counted, and the rest is a name.
pub record IsCounted (octets : List ℕ) (at count : ℕ) : Type 0 where
  pub rest : IsWire (drop at octets)
  pub small : count ≤ at
  pub so_far : count + length (labels_of (drop at octets)) ≡ length (labels_of octets)

abbrev pub invariant-loop-at : goal.invariant-loop-at
invariant-loop-at l = IsCounted l.octets l.at l.count

abbrev pub decreases-loop-at : goal.decreases-loop-at
decreases-loop-at l = length l.octets - l.at
