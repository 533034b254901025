use Rattle.std.proofs.Common.{◌-◌, ◌<◌, length}
use Rattle.set_store.proofs.ends.other_round.Given as goal

abbrev pub invariant-loop-near : goal.invariant-loop-near
invariant-loop-near l = record {
  above : l.place < l.near;
  inside : l.near < length l.order;
}

abbrev pub decreases-loop-near : goal.decreases-loop-near
decreases-loop-near l = length l.order - l.near
