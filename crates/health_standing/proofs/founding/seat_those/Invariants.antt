use Rattle.std.proofs.Common.{◌≡◌, ◌<◌, ℕ, Some, length}
use Rattle.std.specs.Prelude.{slice_get, vec_capacity}
use Rattle.health_planning.specs.Building.{TellsOn}
use Rattle.health_planning.specs.Groups.{members_of}
use Rattle.health_planning.specs.Wired.{HasSlot, group_seat}
use Rattle.zone_model.specs.Slotted.{Slotted}
use Rattle.health_standing.proofs.founding.seat_those.Given as goal

abbrev pub invariant-loop-i : goal.invariant-loop-i
invariant-loop-i l = record {
  size : length l.seats.items ≡ length l.fn.seats.items;
  sets : (slot : ℕ) → TellsOn l.fn.seats.items l.seats.items slot;
  group : (k : ℕ) (p : Slotted) → k < l.i → slice_get (members_of l.zones.zones l.group) k ≡ Some p
      → group_seat l.seats.items p.slot ≡ l.told;
  others : (slot : ℕ) → (HasSlot (members_of l.zones.zones l.group) slot → ⊥)
      → group_seat l.seats.items slot ≡ group_seat l.fn.seats.items slot;
  room : vec_capacity l.seats ≡ vec_capacity l.fn.seats;
}
