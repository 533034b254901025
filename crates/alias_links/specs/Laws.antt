-- When the aliases of a zone need no look.
use Rattle.std.specs.Prelude.{◌≡◌, ◌<◌, ◌⊎◌, ℕ, List, [], Some, slice_get}
use Rattle.std.specs.List.{AllByRecursion}
use Rattle.alias_links.specs.After.{changed}
use Rattle.record_set.specs.Reasons.{IsAlias}
use Rattle.record_set.specs.Sets.{key_of}
use Rattle.record_set.specs.declared.sets.RecordSet.{RecordSet}
use Rattle.record_set.specs.declared.sets.SetKey.{SetKey}
use Rattle.zone_table.specs.Changes.{DifferByKey, IsKeyOf}
use Rattle.zone_table.specs.Placing.{IsThere}
use Rattle.zone_table.specs.Walks.{HasNoTarget, IsTooDeep}
use Rattle.zone_table.specs.Sets.{IsAmong, group, target_group}

-- an alias is among the sets
abbrev pub HasAlias : List RecordSet → Type 0
HasAlias sets = (set : RecordSet) × IsAmong sets set × IsAlias set.body

-- the group of one of the keys has no sets among these
abbrev pub EmptiesGroup : (remove : List SetKey) → (after : List RecordSet) → Type 0
EmptiesGroup remove after =
    (key : SetKey) × IsKeyOf remove key × (group after key.name key.rtype ≡ [])

-- the key at a place has the name and the type of the key before it
abbrev pub GoesOn : List SetKey → (i : ℕ) → Type 0
GoesOn keys i =
    (j : ℕ) × (before : SetKey) × (key : SetKey) × (j < i) × (slice_get keys j ≡ Some before)
    × (slice_get keys i ≡ Some key) × (before.name ≡ key.name) × (before.rtype ≡ key.rtype)

-- What a change says of these sets: those that are added have keys of their own, and none of them
-- is there but to be removed.
pub record IsChange (sets : List RecordSet) (remove : List SetKey) (add : List RecordSet)
    : Type 0 where
  pub differ : DifferByKey add
  pub new : AllByRecursion (λ set. IsThere sets (key_of set) → IsKeyOf remove (key_of set)) add

-- no set among these has it
abbrev pub NoneHas : (RecordSet → Type 0) → List RecordSet → Type 0
NoneHas Has sets = (set : RecordSet) → IsAmong sets set → Has set → ⊥

-- An alias that comes is the last of each walk that comes to it: none of its target group is an alias. And walks came as
-- far as its group already, or none did: there was an alias in it, or no set.
pub record EndsWalks (sets add : List RecordSet) (alias : RecordSet) : Type 0 where
  pub last : HasAlias (target_group sets alias) → ⊥
  pub stays_last : HasAlias (target_group add alias) → ⊥
  pub beside : (group sets alias.name alias.rtype ≡ []) ⊎ HasAlias (group sets alias.name alias.rtype)

abbrev pub AllEndWalks : (sets add : List RecordSet) → Type 0
AllEndWalks sets add = (set : RecordSet) → IsAmong add set → IsAlias set.body → EndsWalks sets add set

-- each alias that is added leads to a set after the change
abbrev pub AllLead : (add after : List RecordSet) → Type 0
AllLead add after = NoneHas (HasNoTarget after) add

pub record AliasesStay : Type 0 where
  -- where no alias is added no walk of 17 links begins
  pub walks : (sets : List RecordSet) (remove : List SetKey) (add : List RecordSet)
      → IsChange sets remove add → (HasAlias add → ⊥) → NoneHas (IsTooDeep sets) sets
      → NoneHas (IsTooDeep (changed sets remove add)) (changed sets remove add)
  -- where also no group is emptied each alias still leads to a set
  pub targets : (sets : List RecordSet) (remove : List SetKey) (add : List RecordSet)
      → IsChange sets remove add → (HasAlias add → ⊥)
      → (EmptiesGroup remove (changed sets remove add) → ⊥) → NoneHas (HasNoTarget sets) sets
      → NoneHas (HasNoTarget (changed sets remove add)) (changed sets remove add)

pub record AliasesCome : Type 0 where
  -- where each alias that is added ends walks no walk of 17 links begins
  pub walks : (sets : List RecordSet) (remove : List SetKey) (add : List RecordSet)
      → IsChange sets remove add → AllEndWalks sets add → NoneHas (HasNoTarget sets) sets
      → NoneHas (IsTooDeep sets) sets
      → NoneHas (IsTooDeep (changed sets remove add)) (changed sets remove add)
  -- where no group is emptied, and each alias that is added leads to a set, each alias does
  pub targets : (sets : List RecordSet) (remove : List SetKey) (add : List RecordSet)
      → IsChange sets remove add → (EmptiesGroup remove (changed sets remove add) → ⊥)
      → AllLead add (changed sets remove add) → NoneHas (HasNoTarget sets) sets
      → NoneHas (HasNoTarget (changed sets remove add)) (changed sets remove add)
