use Rattle.std.proofs.Common.{◌≡◌, ◌<◌, ℕ, Some, length}
use Rattle.std.specs.Prelude.{slice_get, vec_capacity}
use Rattle.policy_select.specs.Groups.{members_of}
use Rattle.zone_model.specs.Slotted.{Slotted}
use Rattle.health_planning.specs.Building.{AreNoted, SameSets}
use Rattle.health_planning.specs.Wired.{HasSlot, group_seat}
use Rattle.health_planning.proofs.grouping.seat_members.Given as goal

abbrev pub invariant-loop-i : goal.invariant-loop-i
invariant-loop-i l = record {
  sets : SameSets l.fn.seats.items l.seats.items;
  size : length l.seats.items ≡ length l.fn.seats.items;
  each : (k : ℕ) (p : Slotted) → k < l.i → slice_get (members_of l.zones.zones l.group) k ≡ Some p
      → group_seat l.seats.items p.slot ≡ l.valve;
  others : (slot : ℕ) → (HasSlot (members_of l.zones.zones l.group) slot → ⊥)
      → group_seat l.seats.items slot ≡ group_seat l.fn.seats.items slot;
  noted : AreNoted l.members.items l.seats.items;
  room : vec_capacity l.members ≡ vec_capacity l.fn.members;
}
