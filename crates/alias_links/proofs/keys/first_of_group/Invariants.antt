use Rattle.std.proofs.Common.{◌≡◌, ℕ, ◌<◌, ◌≤◌, slice_get, Some, true}
use Rattle.record_set.specs.declared.sets.RecordSet.{RecordSet}
use Rattle.zone_table.specs.Sets.{is_of_group}
use Rattle.alias_links.proofs.keys.first_of_group.Given as goal

abbrev pub invariant-loop-place : goal.invariant-loop-place
invariant-loop-place l =
    (j : ℕ) (set : RecordSet) → l.from ≤ j → j < l.place → slice_get l.sets j ≡ Some set
    → is_of_group l.name l.rtype set ≡ true → ⊥
