use Rattle.std.proofs.Common.{◌≤◌}
use Rattle.zone_model.specs.Zones.{IsRising}
use Rattle.zone_rows.proofs.chains.chain.Given as goal

abbrev pub invariant-loop-i : goal.invariant-loop-i
invariant-loop-i g l = record {
  rising : IsRising l.sets.items;
  some : 1 ≤ l.i;
}
