use Rattle.std.proofs.Common.{◌≡◌, ◌<◌, ℕ, Some}
use Rattle.std.specs.Prelude.{slice_get}
use Rattle.health_planning.specs.Groups.{members_of}
use Rattle.health_standing.specs.Founding.{IsOwnBeside}
use Rattle.zone_model.specs.Slotted.{Slotted}
use Rattle.health_standing.proofs.founding.are_own_beside.Given as goal

abbrev pub invariant-loop-i : goal.invariant-loop-i
invariant-loop-i l = (k : ℕ) (p : Slotted) → k < l.i
    → slice_get (members_of l.zones.zones l.group) k ≡ Some p → IsOwnBeside l.seats l.slot p.slot
