use Rattle.std.proofs.Common.{◌≡◌, ℕ, ◌-◌, ◌≤◌, List, length, drop}
use Rattle.std.specs.declared.cmp.Ordering.{Ordering}
use Rattle.std.specs.Ordering.{ordering_then}
use Rattle.dns_name.specs.Order.{zone_cmp}
use Rattle.dns_name.specs.Stored.{labels_of}
use Rattle.dns_name.specs.Whole.{IsWire}
use Rattle.dns_name.proofs.order.order_at_depth.Given as goal

-- The order of the labels that are left, and the order so far where they are the same, is the order
-- of all.
pub record IsOrdered (octets others : List ℕ) (tie order : Ordering) (at other_at : ℕ) : Type 0
  where
    pub rest : IsWire (drop at octets)
    pub other_rest : IsWire (drop other_at others)
    pub within : at ≤ length octets
    pub depth : length (labels_of (drop at octets)) ≡ length (labels_of (drop other_at others))
    pub same :
        ordering_then (zone_cmp (labels_of octets) (labels_of others)) tie
        ≡ ordering_then (zone_cmp (labels_of (drop at octets)) (labels_of (drop other_at others)))
        order

abbrev pub invariant-loop-at : goal.invariant-loop-at
invariant-loop-at l = IsOrdered l.octets l.others l.fn.tie l.order l.at l.other_at

abbrev pub decreases-loop-at : goal.decreases-loop-at
decreases-loop-at l = length l.octets - l.at
