use Rattle.std.proofs.Common.{◌↔◌}
use Rattle.health_valves.specs.Valves.{HasOther}
use Rattle.health_valves.proofs.sharing.has_other.Given as goal

abbrev pub invariant-loop-other : goal.invariant-loop-other
invariant-loop-other l = HasOther l.valve l.fn.fed ↔ HasOther l.valve l.other-iterator
