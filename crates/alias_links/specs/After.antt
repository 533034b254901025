-- The sets of a zone after a change, and the first of them that has something.
use Rattle.std.specs.Prelude.{◌≡◌, ℕ, List, Option, None, Some, slice_get}
use Rattle.alias_tree.specs.Firsts.{IsFirstPlace}
use Rattle.record_set.specs.Sets.{key_of}
use Rattle.record_set.specs.declared.sets.RecordSet.{RecordSet}
use Rattle.record_set.specs.declared.sets.SetKey.{SetKey}
use Rattle.zone_table.specs.Changes.{with_all, without_all}
use Rattle.zone_table.specs.Zones.{Zone, placed_in}
use Rattle.zone_table.specs.Slotted.{sets_of}

-- the sets of a zone by its number
abbrev pub sets_in : List Zone → (id : ℕ) → List RecordSet
sets_in zones id = sets_of (placed_in zones id)

-- the sets once those of some keys are taken away and others are placed among them
abbrev pub changed : List RecordSet → (remove : List SetKey) → (add : List RecordSet)
    → List RecordSet
changed sets remove add = with_all add (without_all remove sets)

abbrev pub changed_in : List Zone → (id : ℕ) → (remove : List SetKey) → (add : List RecordSet)
    → List RecordSet
changed_in zones id remove add = changed (sets_in zones id) remove add

-- The first set that has it is the one of this key.
pub record IsFirstSet (Has : RecordSet → Type 0) (sets : List RecordSet) (key : SetKey)
    : Type 0 where
  pub place : ℕ
  pub first : IsFirstPlace Has sets (Some place)
  pub set : RecordSet
  pub there : slice_get sets place ≡ Some set
  pub same_key : key_of set ≡ key

-- the key of the first set that has it; None where no set has it
abbrev pub IsFirstKey : (RecordSet → Type 0) → List RecordSet → Option SetKey → Type 0
IsFirstKey Has sets None = IsFirstPlace Has sets None
IsFirstKey Has sets (Some key) = IsFirstSet Has sets key
