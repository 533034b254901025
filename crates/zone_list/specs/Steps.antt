-- Sets that come into a zone one after another, and then go from it.
use Rattle.std.specs.Prelude.{◌≡◌, ◌≢◌, ◌≤◌, ◌<◌, ◌⊎◌, ℕ, List, [], ◌∷◌, Option, None, Some, length}
use Rattle.std.specs.Prelude.{slice_get}
use Rattle.std.specs.List.{sum_by}
use Rattle.zone_changes.specs.Cells.{cells_for}
use Rattle.zone_changes.specs.RecordSetRecord.{RecordSet}
use Rattle.zone_changes.specs.SetKeyRecord.{SetKey}
use Rattle.zone_changes.specs.Sets.{key_of}
use Rattle.zone_changes.specs.Octets.{set_octets}
use Rattle.zone_changes.specs.Coming.{Comes}
use Rattle.zone_changes.specs.Placing.{IsThere}
use Rattle.zone_changes.specs.Slotted.{AreOfZone, IsRemoved, Slotted}
use Rattle.zone_list.specs.declared.refs.SetRef.{SetRef}

-- how many cells the octets of the sets take
abbrev pub cells_in_all : List RecordSet → ℕ
cells_in_all add = sum_by (λ set. cells_for (length (set_octets set))) add

-- The sets come one after another.
abbrev pub Comings : (zone : ℕ) → (before : List Slotted) → List RecordSet → (told : List SetRef)
    → (after : List Slotted) → Type 0
Comings zone before [] told after = (told ≡ []) × (after ≡ before)
Comings zone before (set ∷ sets) told after =
    (slot : ℕ) × (middle : List Slotted) × (rest : List SetRef)
    × Comes before (record { slot = slot; set = set }) middle
    × AreOfZone middle × (told ≡ record { zone = zone; slot = slot } ∷ rest)
    × Comings zone middle sets rest after

-- The set at a place has the key.
pub record IsOfKey (add : List RecordSet) (key : SetKey) (at : ℕ) : Type 0 where
  pub set : RecordSet
  pub there : slice_get add at ≡ Some set
  pub same_key : key_of set ≡ key

-- the place of a set with the key, or none has it
abbrev pub PlaceOrNone : List RecordSet → SetKey → Option ℕ → Type 0
PlaceOrNone add key (Some at) = IsOfKey add key at
PlaceOrNone add key None = IsThere add key → ⊥

-- The place of a set with the key; where there is none, none stands from one place on and in front
-- of another.
abbrev pub FoundBetween : List RecordSet → SetKey → (from to : ℕ) → Option ℕ → Type 0
FoundBetween add key from to (Some at) = IsOfKey add key at
FoundBetween add key from to None =
    (k : ℕ) (set : RecordSet) → from ≤ k → k < to → slice_get add k ≡ Some set → key_of set ≢ key

-- A set came for the key, which keeps its slot.
pub record HasCome (add : List RecordSet) (added : List SetRef) (key : SetKey)
    (slot : ℕ) : Type 0 where
  pub at : ℕ
  pub came : IsOfKey add key at
  pub one : SetRef
  pub told : slice_get added at ≡ Some one
  pub its_slot : one.slot ≡ slot

-- The set of a key goes, unless a set came for it.
abbrev pub GoesUnlessCome : List RecordSet → (added : List SetRef) → (before : List Slotted) → SetKey
    → (slot : ℕ)
    → (after : List Slotted) → Type 0
GoesUnlessCome add added before key slot after =
    (HasCome add added key slot × (after ≡ before))
    ⊎ ((IsThere add key → ⊥) × IsRemoved before key slot after)

-- The sets of the keys go one after another.
abbrev pub Goings : (zone : ℕ) → List RecordSet → (added : List SetRef) → (before : List Slotted)
    → List SetKey
    → (told : List SetRef) → (after : List Slotted) → Type 0
Goings zone add added before [] told after = (told ≡ []) × (after ≡ before)
Goings zone add added before (key ∷ keys) told after =
    (slot : ℕ) × (middle : List Slotted) × (rest : List SetRef)
    × GoesUnlessCome add added before key slot middle
    × (told ≡ record { zone = zone; slot = slot } ∷ rest)
    × Goings zone add added middle keys rest after
