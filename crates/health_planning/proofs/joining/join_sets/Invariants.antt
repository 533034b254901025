use Rattle.std.proofs.Common.{◌≡◌, ◌≤◌, ◌<◌, ◌+◌, ◌*◌, ◌⊎◌, ℕ, suc, [], length, Some}
use Rattle.std.specs.Prelude.{slice_get}
use Rattle.health_valves.specs.Blueprint.{KeepsRoom, feeders_in}
use Rattle.record_set.specs.declared.sets.RecordSet.{RecordSet}
use Rattle.policy_select.specs.SetRefRecord.{SetRef}
use Rattle.policy_select.specs.Looking.{RefersTo}
use Rattle.health_planning.specs.Building.{AreWithin, FeedsSet}
use Rattle.health_planning.proofs.joining.join_sets.Given as goal
use Rattle.health_planning.specs.Wired.{group_seat}

abbrev pub invariant-loop-k : goal.invariant-loop-k
invariant-loop-k l = record {
  within_refs : l.k ≤ length l.refs;
  triggers : l.blueprint.triggers ≡ l.fn.blueprint.triggers;
  kept : KeepsRoom l.fn.blueprint l.blueprint;
  few : l.fn.blueprint.links_room ≤ l.blueprint.links_room + 2 * l.k;
  joined : (k : ℕ) (set : SetRef) (named : RecordSet) → k < l.k → slice_get l.refs k ≡ Some set
      → RefersTo l.zones.zones set named → feeders_in l.fn.blueprint.links (200 + k) ≡ []
      → FeedsSet l.zones.zones l.ids l.numbers l.seats set.zone named
      (feeders_in l.blueprint.links (200 + k));
  others : (valve : ℕ) → (valve < 200) ⊎ (200 + l.k ≤ valve)
      → feeders_in l.blueprint.links valve ≡ feeders_in l.fn.blueprint.links valve;
  within : (n : ℕ) → 200 + length l.refs ≤ n
      → ((slot valve : ℕ) → group_seat l.seats slot ≡ suc valve → valve < n)
      → AreWithin l.fn.blueprint.links n → AreWithin l.blueprint.links n;
}
