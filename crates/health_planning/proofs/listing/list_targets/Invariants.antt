use Rattle.std.proofs.Common.{◌≡◌, ◌≤◌, ◌-◌, ℕ, List, length, Some}
use Rattle.std.specs.Prelude.{slice_get}
use Rattle.health_valves.specs.Blueprint.{KeepsRoom}
use Rattle.health_valves.specs.declared.blueprint.Trigger.{Trigger}
use Rattle.health_planning.specs.Building.{HaveOwnValves, TargetsListed}
use Rattle.health_planning.specs.Rooms.{HasListRoom}
use Rattle.health_planning.specs.declared.seats.Seat.{Seat}
use Rattle.policy_select.specs.SetRefRecord.{SetRef}
use Rattle.health_planning.proofs.listing.list_targets.Given as goal

abbrev pub invariant-loop-k : goal.invariant-loop-k
invariant-loop-k l = record {
  within : l.k ≤ length l.refs.items;
  slots : length l.seats.items ≡ l.zones.slots;
  same_size : length l.seats.items ≡ length l.fn.seats.items;
  ready : (first : ℕ) × ((before : List Seat) × HaveOwnValves l.zones.zones first before l.refs.items l.seats.items l.blueprint.triggers);
  listed : (first : ℕ) (before : List Seat)
      → HaveOwnValves l.zones.zones first before l.fn.refs.items l.fn.seats.items l.fn.blueprint.triggers
      → HaveOwnValves l.zones.zones first before l.refs.items l.seats.items l.blueprint.triggers;
  goes_on : (k : ℕ) (ref : SetRef) → slice_get l.fn.refs.items k ≡ Some ref → slice_get l.refs.items k ≡ Some ref;
  triggers : (n : ℕ) (trigger : Trigger) → slice_get l.fn.blueprint.triggers n ≡ Some trigger
      → slice_get l.blueprint.triggers n ≡ Some trigger;
  links : l.blueprint.links ≡ l.fn.blueprint.links;
  room : HasListRoom l.blueprint l.refs l.seats.items;
  kept : KeepsRoom l.fn.blueprint l.blueprint;
  members : TargetsListed l.zones.zones l.k l.refs.items;
}

abbrev pub decreases-loop-k : goal.decreases-loop-k
decreases-loop-k l = length l.seats.items - l.k
