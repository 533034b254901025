use Rattle.std.proofs.Common.{◌-◌, ◌<◌, ◌≤◌, length}
use Rattle.set_store.specs.Ends.{IsOtherAt}
use Rattle.set_store.proofs.ends.other_between.Given as goal

abbrev pub invariant-loop-near : goal.invariant-loop-near
invariant-loop-near l = record {
  from : l.fn.near ≤ l.near;
  below : l.near < l.high;
  within : l.high ≤ length l.order;
  other : IsOtherAt l.slots.items l.order l.own l.high;
}

abbrev pub decreases-loop-near : goal.decreases-loop-near
decreases-loop-near l = l.high - l.near
