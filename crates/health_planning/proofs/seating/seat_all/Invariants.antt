use Rattle.std.proofs.Common.{◌≡◌, ◌≤◌, ◌-◌, ◌^◌, ℕ, length}
use Rattle.std.specs.Prelude.{vec_capacity}
use Rattle.policy_select.specs.Zones.{placed_in}
use Rattle.zone_model.specs.Slotted.{IsHere, Slotted}
use Rattle.health_planning.specs.Building.{SeatsCheck, TellsCheck}
use Rattle.health_planning.specs.Wired.{group_seat}
use Rattle.health_planning.proofs.seating.seat_all.Given as goal

abbrev pub invariant-loop-next : goal.invariant-loop-next
invariant-loop-next l = record {
  told : (id : ℕ) (p : Slotted) → id ≤ l.zone → IsHere (placed_in l.zones.zones id) p
      → TellsCheck l.ids l.numbers l.seats.items p;
  stays : (p : Slotted) (zone : ℕ) → IsHere (placed_in l.zones.zones zone) p
      → TellsCheck l.ids l.numbers l.fn.seats.items p → TellsCheck l.ids l.numbers l.seats.items p;
  each : (slot : ℕ) → SeatsCheck l.zones.zones l.fn.seats.items l.seats.items slot;
  groups : (slot : ℕ) → group_seat l.seats.items slot ≡ group_seat l.fn.seats.items slot;
  size : length l.seats.items ≡ length l.fn.seats.items;
  room : vec_capacity l.seats ≡ vec_capacity l.fn.seats;
}

abbrev pub decreases-loop-next : goal.decreases-loop-next
decreases-loop-next l = 2 ^ 32 - l.zone
