use Rattle.std.proofs.Common.{◌≡◌, ◌<◌, ◌⊎◌, ℕ, Some, length}
use Rattle.std.specs.Prelude.{slice_get, vec_capacity}
use Rattle.policy_select.specs.SetRefRecord.{SetRef}
use Rattle.policy_select.specs.Zones.{placed_in}
use Rattle.zone_model.specs.Slotted.{IsHere, Slotted}
use Rattle.health_planning.specs.Building.{SeatsCheck, TellSlot, TellsCheck, TellsOn}
use Rattle.health_planning.specs.Wired.{group_seat}
use Rattle.health_planning.proofs.seating.seat_those.Given as goal

abbrev pub invariant-loop-set : goal.invariant-loop-set
invariant-loop-set l = record {
  told : (k : ℕ) (set : SetRef) (p : Slotted) → k < l.set-index → slice_get l.those k ≡ Some set
      → IsHere (placed_in l.zones.zones set.zone) p → p.slot ≡ set.slot
      → TellsCheck l.ids l.numbers l.seats.items p;
  stays : (p : Slotted) (zone : ℕ) → IsHere (placed_in l.zones.zones zone) p
      → TellsCheck l.ids l.numbers l.fn.seats.items p → TellsCheck l.ids l.numbers l.seats.items p;
  others : (slot : ℕ) → TellSlot l.those slot ⊎ TellsOn l.fn.seats.items l.seats.items slot;
  each : (slot : ℕ) → SeatsCheck l.zones.zones l.fn.seats.items l.seats.items slot;
  groups : (slot : ℕ) → group_seat l.seats.items slot ≡ group_seat l.fn.seats.items slot;
  size : length l.seats.items ≡ length l.fn.seats.items;
  room : vec_capacity l.seats ≡ vec_capacity l.fn.seats;
}
