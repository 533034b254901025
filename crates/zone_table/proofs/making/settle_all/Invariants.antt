use Rattle.std.proofs.Common.{◌≡◌}
use Rattle.zone_table.proofs.making.settle_all.Given as goal

abbrev pub invariant-loop-place : goal.invariant-loop-place
invariant-loop-place l = l.list ≡ l.fn.list
