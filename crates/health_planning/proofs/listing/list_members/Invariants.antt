use Rattle.std.proofs.Common.{◌≡◌, ◌≤◌, ◌<◌, ℕ, List, true, length, Some}
use Rattle.std.specs.Prelude.{slice_get}
use Rattle.health_valves.specs.Blueprint.{KeepsRoom}
use Rattle.health_valves.specs.declared.blueprint.Trigger.{Trigger}
use Rattle.health_planning.specs.Building.{HaveOwnValves, IsListed}
use Rattle.health_planning.specs.Rooms.{HasListRoom}
use Rattle.health_planning.specs.Wired.{is_watched}
use Rattle.health_planning.specs.declared.seats.Seat.{Seat}
use Rattle.policy_select.specs.Changes.{ref_in}
use Rattle.policy_select.specs.Groups.{members_of}
use Rattle.policy_select.specs.SetRefRecord.{SetRef}
use Rattle.zone_model.specs.Slotted.{Slotted}
use Rattle.health_planning.proofs.listing.list_members.Given as goal

abbrev pub invariant-loop-i : goal.invariant-loop-i
invariant-loop-i l = record {
  within : l.i ≤ l.group.length;
  slots : length l.seats.items ≡ l.zones.slots;
  same_size : length l.seats.items ≡ length l.fn.seats.items;
  ready : (first : ℕ) × ((before : List Seat) × HaveOwnValves l.zones.zones first before l.refs.items l.seats.items l.blueprint.triggers);
  listed : (first : ℕ) (before : List Seat)
      → HaveOwnValves l.zones.zones first before l.fn.refs.items l.fn.seats.items l.fn.blueprint.triggers
      → HaveOwnValves l.zones.zones first before l.refs.items l.seats.items l.blueprint.triggers;
  goes_on : (k : ℕ) (ref : SetRef) → slice_get l.fn.refs.items k ≡ Some ref → slice_get l.refs.items k ≡ Some ref;
  triggers : (n : ℕ) (trigger : Trigger) → slice_get l.fn.blueprint.triggers n ≡ Some trigger
      → slice_get l.blueprint.triggers n ≡ Some trigger;
  links : l.blueprint.links ≡ l.fn.blueprint.links;
  room : HasListRoom l.blueprint l.refs l.seats.items;
  kept : KeepsRoom l.fn.blueprint l.blueprint;
  all : (k : ℕ) (p : Slotted) → k < l.i → slice_get (members_of l.zones.zones l.group) k ≡ Some p
      → is_watched p.set ≡ true → IsListed l.refs.items (ref_in l.group.zone p);
}
