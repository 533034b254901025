use Rattle.std.proofs.Common.{◌≡◌, ◌≤◌, ◌<◌, ℕ, List, true, length, Some}
use Rattle.std.specs.Prelude.{slice_get, vec_capacity}
use Rattle.health_valves.specs.Blueprint.{KeepsRoom, feeders_in}
use Rattle.health_valves.specs.declared.blueprint.Trigger.{Trigger}
use Rattle.record_set.specs.declared.sets.Body.TheVariants.{Alias}
use Rattle.record_set.specs.declared.sets.RecordSet.{RecordSet}
use Rattle.policy_select.specs.SetRefRecord.{SetRef}
use Rattle.policy_select.specs.Looking.{RefersTo}
use Rattle.health_planning.specs.Building.{AreBelow, AreNoted, AreWithin, HasTarget, SameSets}
use Rattle.health_planning.specs.Rooms.{CanGroup}
use Rattle.health_planning.proofs.grouping.group_all.Given as goal

abbrev pub invariant-loop-set : goal.invariant-loop-set
invariant-loop-set l = record {
  slots : length l.seats.items ≡ l.zones.slots;
  below : AreBelow l.seats.items (length l.blueprint.triggers);
  within : AreWithin l.blueprint.links (length l.blueprint.triggers);
  grouped : CanGroup l.zones.zones (length l.fn.blueprint.triggers) (length l.fn.blueprint.links) l.seats.items l.blueprint;
  kept : KeepsRoom l.fn.blueprint l.blueprint;
  all : (k : ℕ) (set : SetRef) (named : RecordSet) (name : List (List ℕ)) → k < l.set-index
      → slice_get l.refs k ≡ Some set → RefersTo l.zones.zones set named
      → named.body ≡ Alias name true
      → HasTarget l.zones.zones l.seats.items set.zone name named.rtype;
  sets : SameSets l.fn.seats.items l.seats.items;
  triggers : (n : ℕ) (trigger : Trigger) → slice_get l.fn.blueprint.triggers n ≡ Some trigger
      → slice_get l.blueprint.triggers n ≡ Some trigger;
  feeders : (valve : ℕ) → valve < length l.fn.blueprint.triggers
      → feeders_in l.blueprint.links valve ≡ feeders_in l.fn.blueprint.links valve;
  more : length l.fn.blueprint.triggers ≤ length l.blueprint.triggers;
  noted : AreNoted l.members.items l.seats.items;
  members_room : length l.seats.items ≤ vec_capacity l.members;
}
