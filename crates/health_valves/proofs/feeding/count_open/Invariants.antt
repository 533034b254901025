use Rattle.std.proofs.Common.{◌≡◌, ◌≤◌, ◌+◌, drop}
use Rattle.health_valves.specs.Valves.{count, value_in}
use Rattle.health_valves.proofs.feeding.count_open.Given as goal

abbrev pub invariant-loop-valve : goal.invariant-loop-valve
invariant-loop-valve l = record {
  few : l.open ≤ l.valve-index;
  counted : l.open + count (value_in l.values) (drop l.valve-index l.valves) ≡ count (value_in l.values) l.valves;
}
