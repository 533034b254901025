use Rattle.std.proofs.Common.{◌≡◌, ℕ, ◌<◌, slice_get, Some}
use Rattle.record_set.specs.declared.sets.RecordSet.{RecordSet}
use Rattle.alias_links.specs.After.{changed_in, sets_in}
use Rattle.alias_links.specs.Leasts.{StaysWithout}
use Rattle.alias_links.proofs.missing.missing_among.Given as goal

abbrev pub invariant-loop-i : goal.invariant-loop-i
invariant-loop-i l =
    (j : ℕ) (set : RecordSet) → j < l.i → slice_get (sets_in l.zones.zones l.zone) j ≡ Some set
    → StaysWithout l.remove (changed_in l.zones.zones l.zone l.remove l.add) set → ⊥
