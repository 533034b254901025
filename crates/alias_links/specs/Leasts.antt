-- The least key of the sets that have something.
use Rattle.std.specs.Prelude.{◌≡◌, ◌≢◌, ◌⊎◌, List, Option, None, Some}
use Rattle.std.specs.declared.cmp.Ordering.TheVariants.{Greater}
use Rattle.record_set.specs.Sets.{key_of}
use Rattle.record_set.specs.declared.sets.RecordSet.{RecordSet}
use Rattle.record_set.specs.declared.sets.SetKey.{SetKey}
use Rattle.zone_table.specs.Changes.{IsKeyOf}
use Rattle.zone_table.specs.Keys.{key_cmp}
use Rattle.zone_table.specs.Walks.{HasNoTarget}
use Rattle.zone_table.specs.Sets.{IsAmong}

-- The key is that of a set that has it, and no such set's key is less.
pub record IsLeast (Has : RecordSet → Type 0) (sets : List RecordSet) (key : SetKey)
    : Type 0 where
  pub set : RecordSet
  pub there : IsAmong sets set
  pub has : Has set
  pub same_key : key_of set ≡ key
  pub least : (other : RecordSet) → IsAmong sets other → Has other
      → key_cmp key (key_of other) ≢ Greater

-- it; or none where no set has it
abbrev pub LeastOrNone : (RecordSet → Type 0) → List RecordSet → Option SetKey → Type 0
LeastOrNone Has sets None = (set : RecordSet) → IsAmong sets set → Has set → ⊥
LeastOrNone Has sets (Some key) = IsLeast Has sets key

-- The set stays, and is an alias whose target group has no sets among these.
abbrev pub StaysWithout : (remove : List SetKey) → (after : List RecordSet) → RecordSet → Type 0
StaysWithout remove after set = (IsKeyOf remove (key_of set) → ⊥) × HasNoTarget after set

-- the key of the set, where it does; None where it doesn't
abbrev pub TellsIf : Type 0 → RecordSet → Option SetKey → Type 0
TellsIf Does set None = Does → ⊥
TellsIf Does set (Some key) = Does × (key ≡ key_of set)

-- the lesser of two keys, or the one that there is
abbrev pub IsLesser : (one other lesser : Option SetKey) → Type 0
IsLesser None other lesser = lesser ≡ other
IsLesser (Some key) None lesser = lesser ≡ Some key
IsLesser (Some key) (Some other) None = ⊥
IsLesser (Some key) (Some other) (Some lesser) =
    ((lesser ≡ key) × (key_cmp key other ≢ Greater))
    ⊎ ((lesser ≡ other) × (key_cmp other key ≢ Greater))
