-- Where the sets of a name stand in a zone: side by side, from a first place on.
use Rattle.std.specs.Prelude.{◌≡◌, ◌≢◌, ◌≤◌, ◌<◌, ◌-◌, ◌++◌, ℕ, List, take, drop, length, slice_get}
use Rattle.std.specs.Prelude.{Bool, true, false, Option, None, Some}
use Rattle.std.specs.List.Sorted.{IsStrictlyIncreasing}
use Rattle.batch_model.specs.RecordSetRecord.{RecordSet}
use Rattle.batch_model.specs.Octets.{HasSpelling}
use Rattle.zone_table.specs.Sets.{IsAmong}
use Rattle.batch_model.specs.declared.batches.Change.{Change}

-- whether there is a set at a place, which a scratch holds then
abbrev pub HoldsAt : List RecordSet → (place : ℕ) → Bool → (held : Option RecordSet) → Type 0
HoldsAt sets place true held =
    (set : RecordSet) × (slice_get sets place ≡ Some set) × (held ≡ Some set) × HasSpelling set
HoldsAt sets place false held = length sets ≤ place

-- whether there is a set of this name
abbrev pub HoldsNamed : List RecordSet → (place : ℕ) → (name : List (List ℕ)) → Bool
    → (held : Option RecordSet) → Type 0
HoldsNamed sets place name true held =
    (set : RecordSet) × (slice_get sets place ≡ Some set) × (held ≡ Some set) × HasSpelling set
    × (set.name ≡ name)
HoldsNamed sets place name false held =
    (set : RecordSet) → slice_get sets place ≡ Some set → set.name ≢ name

-- The sets of a name begin at this place.
pub record IsStart (sets : List RecordSet) (name : List (List ℕ)) (at : ℕ) : Type 0 where
  pub set : RecordSet
  pub there : slice_get sets at ≡ Some set
  pub its_name : set.name ≡ name
  pub first : (k : ℕ) (other : RecordSet) → k < at → slice_get sets k ≡ Some other
      → other.name ≢ name

abbrev pub StartOrNone : List RecordSet → (name : List (List ℕ)) → Option ℕ → Type 0
StartOrNone sets name (Some at) = IsStart sets name at
StartOrNone sets name None = (set : RecordSet) → IsAmong sets set → set.name ≢ name

-- a change of these is of the name
abbrev pub IsNamed : List Change → (name : List (List ℕ)) → Type 0
IsNamed changes name = (change : Change) × IsAmong changes change × (change.set.name ≡ name)

-- the sets of a name that the changes name begin here
abbrev pub IsNamedStart : List RecordSet → List Change → (at : ℕ) → Type 0
IsNamedStart sets changes at = (name : List (List ℕ)) × IsNamed changes name × IsStart sets name at

-- Where the sets of each name of the changes begin, in any order.
pub record AreStarts (sets : List RecordSet) (changes : List Change)
    (starts : List ℕ) : Type 0 where
  pub each : (at : ℕ) → IsAmong starts at → IsNamedStart sets changes at
  pub all : (at : ℕ) → IsNamedStart sets changes at → IsAmong starts at

-- The same, by rising place.
abbrev pub AreRisingStarts : List RecordSet → List Change → List ℕ → Type 0
AreRisingStarts sets changes starts = IsStrictlyIncreasing starts × AreStarts sets changes starts

-- The sets between two places are those of one name, the first of which stands at the first place.
pub record IsRun (sets : List RecordSet) (name : List (List ℕ)) (start end : ℕ) : Type 0 where
  pub order : start ≤ end
  pub within : end ≤ length sets
  pub its : (k : ℕ) (set : RecordSet) → start ≤ k → k < end → slice_get sets k ≡ Some set
      → set.name ≡ name
  pub ends : (set : RecordSet) → slice_get sets end ≡ Some set → set.name ≢ name

-- The sets of a name that begin at a place were added to others.
pub record AppendsNamed (sets : List RecordSet) (name : List (List ℕ)) (start : ℕ)
    (before after : List RecordSet) : Type 0 where
  pub end : ℕ
  pub run : IsRun sets name start end
  pub added : after ≡ before ++ take (end - start) (drop start sets)

-- The same, of the name of the set that stands there.
abbrev pub ReadsRun : List RecordSet → (start : ℕ) → (before after : List RecordSet) → Type 0
ReadsRun sets start before after =
    (set : RecordSet) → slice_get sets start ≡ Some set → AppendsNamed sets set.name start before
    after
