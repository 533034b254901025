use Rattle.std.proofs.Common.{◌≡◌, ℕ, ◌<◌, slice_get, Some, true}
use Rattle.record_set.specs.Reasons.{IsAlias}
use Rattle.record_set.specs.declared.sets.RecordSet.{RecordSet}
use Rattle.zone_table.specs.Sets.{is_of_group}
use Rattle.alias_links.proofs.ending.adds_alias_to.Given as goal

abbrev pub invariant-loop-i : goal.invariant-loop-i
invariant-loop-i l =
    (j : ℕ) (set : RecordSet) → j < l.i → slice_get l.sets j ≡ Some set
    → IsAlias set.body × (is_of_group l.name l.rtype set ≡ true) → ⊥
