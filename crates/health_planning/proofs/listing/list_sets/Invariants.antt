use Rattle.std.proofs.Common.{◌≡◌, ◌≤◌, ◌-◌, ◌^◌, ℕ, List, true, length, Some}
use Rattle.std.specs.Prelude.{slice_get}
use Rattle.health_valves.specs.Blueprint.{KeepsRoom}
use Rattle.health_valves.specs.declared.blueprint.Trigger.{Trigger}
use Rattle.health_planning.specs.Building.{HaveOwnValves, IsListed}
use Rattle.health_planning.specs.Rooms.{HasListRoom}
use Rattle.policy_select.specs.Telling.{evaluates}
use Rattle.health_planning.specs.declared.seats.Seat.{Seat}
use Rattle.policy_select.specs.Changes.{ref_in}
use Rattle.policy_select.specs.Zones.{placed_in}
use Rattle.policy_select.specs.SetRefRecord.{SetRef}
use Rattle.zone_model.specs.Slotted.{IsHere, Slotted}
use Rattle.health_planning.proofs.listing.list_sets.Given as goal

abbrev pub invariant-loop-next : goal.invariant-loop-next
invariant-loop-next l = record {
  slots : length l.seats.items ≡ l.zones.slots;
  ready : (first : ℕ) × ((before : List Seat) × HaveOwnValves l.zones.zones first before l.refs.items l.seats.items l.blueprint.triggers);
  listed : (first : ℕ) (before : List Seat)
      → HaveOwnValves l.zones.zones first before l.fn.refs.items l.fn.seats.items l.fn.blueprint.triggers
      → HaveOwnValves l.zones.zones first before l.refs.items l.seats.items l.blueprint.triggers;
  goes_on : (k : ℕ) (ref : SetRef) → slice_get l.fn.refs.items k ≡ Some ref → slice_get l.refs.items k ≡ Some ref;
  triggers : (n : ℕ) (trigger : Trigger) → slice_get l.fn.blueprint.triggers n ≡ Some trigger
      → slice_get l.blueprint.triggers n ≡ Some trigger;
  links : l.blueprint.links ≡ l.fn.blueprint.links;
  room : HasListRoom l.blueprint l.refs l.seats.items;
  kept : KeepsRoom l.fn.blueprint l.blueprint;
  all : (id : ℕ) (p : Slotted) → id ≤ l.zone → IsHere (placed_in l.zones.zones id) p
      → evaluates p.set.body ≡ true → IsListed l.refs.items (ref_in id p);
}

abbrev pub decreases-loop-next : goal.decreases-loop-next
decreases-loop-next l = 2 ^ 32 - l.zone
