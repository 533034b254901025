use Rattle.std.proofs.Common.{◌↔◌}
use Rattle.std.specs.List.{Contains}
use Rattle.health_valves.proofs.valves.is_fed.Given as goal

abbrev pub invariant-loop-other : goal.invariant-loop-other
invariant-loop-other l = Contains l.fn.fed l.valve ↔ Contains l.other-iterator l.valve
