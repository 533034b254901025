use Rattle.std.proofs.Common.{◌≡◌, ◌≢◌, ◌+◌, ◌-◌, ℕ}
use Rattle.std.specs.Prelude.{vec_len}
use Rattle.check_commands.specs.Counts.{times, told_at}
use Rattle.check_commands.proofs.named.reach.Given as goal

abbrev pub invariant-loop-list : goal.invariant-loop-list
invariant-loop-list l = record {
  told : (other : ℕ) → told_at l.list.items other ≡ told_at l.fn.list.items other;
  times : (check : ℕ) → check ≢ 0 → times check l.list.items ≡ times check l.fn.list.items;
}

abbrev pub decreases-loop-list : goal.decreases-loop-list
decreases-loop-list l = l.slot + 1 - vec_len l.list
