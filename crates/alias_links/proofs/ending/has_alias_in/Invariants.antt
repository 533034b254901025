use Rattle.std.proofs.Common.{◌≡◌, ℕ, ◌<◌, ◌+◌, slice_get, Some}
use Rattle.record_set.specs.Reasons.{IsAlias}
use Rattle.record_set.specs.declared.sets.RecordSet.{RecordSet}
use Rattle.alias_links.specs.After.{sets_in}
use Rattle.alias_links.proofs.ending.has_alias_in.Given as goal

abbrev pub invariant-loop-i : goal.invariant-loop-i
invariant-loop-i l =
    (j : ℕ) (set : RecordSet) → j < l.i
    → slice_get (sets_in l.zones.zones l.zone) (l.group.start + j) ≡ Some set → IsAlias set.body → ⊥
