use Rattle.std.proofs.Common.{◌≡◌, ◌<◌, ◌⊎◌, ℕ, Some, length}
use Rattle.std.specs.Prelude.{slice_get, vec_capacity}
use Rattle.policy_select.specs.SetRefRecord.{SetRef}
use Rattle.health_planning.specs.Building.{TellSlot, TellsOn}
use Rattle.health_planning.specs.Wired.{group_seat, set_seat}
use Rattle.health_planning.proofs.seating.clear_gone.Given as goal

abbrev pub invariant-loop-set : goal.invariant-loop-set
invariant-loop-set l = record {
  here : (k : ℕ) (set : SetRef) → k < l.set-index → slice_get l.gone k ≡ Some set
      → set_seat l.seats.items set.slot ≡ 0;
  others : (slot : ℕ) → TellSlot l.gone slot ⊎ TellsOn l.fn.seats.items l.seats.items slot;
  groups : (slot : ℕ) → group_seat l.seats.items slot ≡ group_seat l.fn.seats.items slot;
  size : length l.seats.items ≡ length l.fn.seats.items;
  room : vec_capacity l.seats ≡ vec_capacity l.fn.seats;
}
