use Rattle.std.proofs.Common.{◌≡◌, ◌≤◌, length, drop}
use Rattle.cidr_changes.specs.Changed.{least, unplaced}
use Rattle.cidr_changes.proofs.changing.least_unplaced.Given as goal

abbrev pub invariant-loop-i : goal.invariant-loop-i
invariant-loop-i l = record {
  within : l.i ≤ length l.used;
  best : l.best ≡ least (unplaced l.id l.locations (drop l.i l.used));
}

abbrev pub decreases-loop-i : goal.decreases-loop-i
decreases-loop-i l = l.i
