use Rattle.std.proofs.Common.{◌≡◌, ◌<◌, ℕ, Some}
use Rattle.std.specs.Prelude.{slice_get}
use Rattle.health_planning.specs.SetRefRecord.{SetRef}
use Rattle.health_standing.specs.Leaving.{CameKeepsValves}
use Rattle.health_standing.proofs.valve_leaving.all_came_leave_valves.Given as goal

abbrev pub invariant-loop-set : goal.invariant-loop-set
invariant-loop-set l = (k : ℕ) (ref : SetRef) → k < l.set-index
    → slice_get l.added k ≡ Some ref
    → CameKeepsValves l.zones.zones l.ids l.numbers l.seats l.valves l.removed ref
