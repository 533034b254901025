use Rattle.std.proofs.Common.{◌≡◌, ℕ, ◌<◌, slice_get, Some, true}
use Rattle.alias_links.specs.Aliases.{is_alias_set}
use Rattle.record_set.specs.declared.sets.RecordSet.{RecordSet}
use Rattle.alias_links.proofs.keys.adds_alias.Given as goal

abbrev pub invariant-loop-i : goal.invariant-loop-i
invariant-loop-i l =
    (j : ℕ) (set : RecordSet) → j < l.i → slice_get l.sets j ≡ Some set → is_alias_set set ≡ true → ⊥
