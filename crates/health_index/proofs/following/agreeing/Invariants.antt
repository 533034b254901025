use Rattle.std.proofs.Common.{◌≤◌, length}
use Rattle.health_index.specs.Following.{HaveIds}
use Rattle.health_index.proofs.following.agreeing.Given as goal

abbrev pub invariant-loop-place : goal.invariant-loop-place
invariant-loop-place l = record {
  within : l.place ≤ length l.list;
  there : l.place ≤ length l.ids;
  same : HaveIds l.ids l.place l.list;
}
