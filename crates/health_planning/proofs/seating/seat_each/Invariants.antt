use Rattle.std.proofs.Common.{◌≡◌, ◌≤◌, ◌<◌, ℕ, Some, length}
use Rattle.std.specs.Prelude.{slice_get, vec_capacity}
use Rattle.policy_select.specs.Zones.{placed_in}
use Rattle.zone_model.specs.Slotted.{IsHere, Slotted}
use Rattle.health_planning.specs.Building.{SeatsCheck, TellsCheck}
use Rattle.health_planning.specs.Wired.{group_seat}
use Rattle.health_planning.proofs.seating.seat_each.Given as goal

abbrev pub invariant-loop-i : goal.invariant-loop-i
invariant-loop-i l = record {
  within : l.i ≤ length (placed_in l.zones.zones l.zone);
  told : (k : ℕ) (p : Slotted) → k < l.i → slice_get (placed_in l.zones.zones l.zone) k ≡ Some p
      → TellsCheck l.ids l.numbers l.seats.items p;
  stays : (p : Slotted) (zone : ℕ) → IsHere (placed_in l.zones.zones zone) p
      → TellsCheck l.ids l.numbers l.fn.seats.items p → TellsCheck l.ids l.numbers l.seats.items p;
  each : (slot : ℕ) → SeatsCheck l.zones.zones l.fn.seats.items l.seats.items slot;
  groups : (slot : ℕ) → group_seat l.seats.items slot ≡ group_seat l.fn.seats.items slot;
  size : length l.seats.items ≡ length l.fn.seats.items;
  room : vec_capacity l.seats ≡ vec_capacity l.fn.seats;
}
