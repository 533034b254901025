use Rattle.std.proofs.Common.{◌≡◌, ℕ, ◌<◌, ◌+◌, slice_get, Some}
use Rattle.record_set.specs.Sets.{key_of}
use Rattle.record_set.specs.declared.sets.RecordSet.{RecordSet}
use Rattle.zone_table.specs.Changes.{IsKeyOf}
use Rattle.alias_links.specs.After.{sets_in}
use Rattle.alias_links.proofs.groups.stays_in.Given as goal

abbrev pub invariant-loop-i : goal.invariant-loop-i
invariant-loop-i l =
    (j : ℕ) (set : RecordSet) → j < l.i
    → slice_get (sets_in l.zones.zones l.zone) (l.group.start + j) ≡ Some set
    → (IsKeyOf l.remove (key_of set) → ⊥) → ⊥
