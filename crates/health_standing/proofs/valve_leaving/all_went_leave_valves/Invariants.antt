use Rattle.std.proofs.Common.{◌≡◌, ◌<◌, ℕ, Some}
use Rattle.std.specs.Prelude.{slice_get}
use Rattle.health_planning.specs.SetRefRecord.{SetRef}
use Rattle.health_standing.specs.Leaving.{WentKeepsValves}
use Rattle.health_standing.proofs.valve_leaving.all_went_leave_valves.Given as goal

abbrev pub invariant-loop-set : goal.invariant-loop-set
invariant-loop-set l = (k : ℕ) (ref : SetRef) → k < l.set-index
    → slice_get l.removed k ≡ Some ref → WentKeepsValves l.seats l.added ref
