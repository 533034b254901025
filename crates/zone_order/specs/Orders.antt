-- The sets of one zone in its order, as slots of a store that all zones share.
use Rattle.std.specs.Prelude.{◌≡◌, ◌≢◌, ◌<◌, ◌^◌, ℕ, List, [], ◌∷◌, Option, None, Some}
use Rattle.std.specs.Prelude.{◌==◌, if◌then◌else◌, map, slice_get, unwrap_or, ⊤}
use Rattle.std.specs.List.{AllByRecursion}
use Rattle.set_store.specs.RecordSetRecord.{RecordSet}
use Rattle.set_store.specs.Index.{no_set}
use Rattle.set_store.specs.Stored.{Kept}
use Rattle.set_store.specs.Zones.{IsAmong, IsRising}
use Rattle.set_store.specs.Slotted.{Slotted, sets_of}

-- a set that is kept, where it is of the zone
abbrev pub of_zone : ℕ → Option (Option Kept) → Option RecordSet
of_zone zone None = None
of_zone zone (Some None) = None
of_zone zone (Some (Some kept)) = if kept.zone == zone then Some kept.set else None

-- which set of the zone stands in a slot, if one does
abbrev pub set_in : List (Option Kept) → (zone : ℕ) → (slot : ℕ) → Option RecordSet
set_in slots zone slot = of_zone zone (slice_get slots slot)

abbrev pub slotted_at : (get : ℕ → Option RecordSet) → (slot : ℕ) → Slotted
slotted_at get slot = record { slot = slot; set = unwrap_or (get slot) no_set }

-- the sets of slots
abbrev pub slotted_by : (get : ℕ → Option RecordSet) → List ℕ → List Slotted
slotted_by get order = map (slotted_at get) order

-- the sets of a zone in its order
abbrev pub slotted_of : List (Option Kept) → (zone : ℕ) → (order : List ℕ) → List Slotted
slotted_of slots zone order = slotted_by (set_in slots zone) order

-- none stands twice
abbrev pub AreDistinct : List ℕ → Type 0
AreDistinct [] = ⊤
AreDistinct (k ∷ order) = AllByRecursion (λ j. k ≢ j) order × AreDistinct order

abbrev pub HasSet : (get : ℕ → Option RecordSet) → ℕ → Type 0
HasSet get k = (set : RecordSet) × (get k ≡ Some set)

-- The slots are those in which a set stands, in the order of the sets.
pub record IsOrderBy (get : ℕ → Option RecordSet) (order : List ℕ) : Type 0 where
  pub present : AllByRecursion (λ k. HasSet get k) order
  pub only : (k : ℕ) (set : RecordSet) → get k ≡ Some set → IsAmong order k
  pub distinct : AreDistinct order
  pub few : AllByRecursion (λ k. k < 2 ^ 32) order
  pub rising : IsRising (sets_of (slotted_by get order))

-- the slots of the zone's sets, in zone order
abbrev pub IsOrder : List (Option Kept) → (zone : ℕ) → (order : List ℕ) → Type 0
IsOrder slots zone order = IsOrderBy (set_in slots zone) order

-- the sets of all other zones stay in their slots
abbrev pub OthersStay : (zone : ℕ) → (before after : List (Option Kept)) → Type 0
OthersStay zone before after = (other slot : ℕ) → other ≢ zone
    → set_in after other slot ≡ set_in before other slot
