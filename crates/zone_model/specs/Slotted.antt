-- The sets of a zone with their slots.
use Rattle.std.specs.Prelude.{◌≡◌, ◌≢◌, ◌≤◌, ◌<◌, ◌^◌, ◌⊎◌, ℕ, List, [], ◌∷◌, map, length, slice_get, Option, None, Some, ⊤}
use Rattle.std.specs.List.{AllByRecursion, insert, remove}
use Rattle.record_set.specs.declared.sets.RecordSet.{RecordSet}
use Rattle.record_set.specs.declared.sets.SetKey.{SetKey}
use Rattle.record_set.specs.Sets.{key_of}
use Rattle.zone_model.specs.Zones.{IsAmong, IsRising}

-- A set, and the slot by which it is referred to.
pub record Slotted : Type 0 where
  pub slot : ℕ
  pub set : RecordSet

abbrev pub sets_of : List Slotted → List RecordSet
sets_of placed = map (λ p. p.set) placed

-- the set is here, in its slot
abbrev pub IsHere : List Slotted → Slotted → Type 0
IsHere placed p = IsAmong placed p

-- no slot stands twice
abbrev pub HaveOwnSlots : List Slotted → Type 0
HaveOwnSlots [] = ⊤
HaveOwnSlots (p ∷ placed) = AllByRecursion (λ q. p.slot ≢ q.slot) placed × HaveOwnSlots placed

-- The sets are those of a zone: in zone order, each in a slot of its own, which is a number below 2^32.
pub record AreOfZone (placed : List Slotted) : Type 0 where
  pub rising : IsRising (sets_of placed)
  pub own : HaveOwnSlots placed
  pub few : AllByRecursion (λ p. p.slot < 2 ^ 32) placed

-- A set is put at its place in zone order. All others stay, each in its slot.
pub record IsPut (before : List Slotted) (given : Slotted) (after : List Slotted) : Type 0 where
  pub at : ℕ
  pub within : at ≤ length before
  pub inserted : after ≡ insert before at given
  pub rising : IsRising (sets_of after)

-- The set at a place, which is in this slot, is taken away. All others stay, each in its slot.
pub record IsTakenAt (before : List Slotted) (at slot : ℕ) (after : List Slotted) : Type 0 where
  pub set : RecordSet
  pub there : slice_get before at ≡ Some (record { slot = slot; set = set })
  pub removed : after ≡ remove before at

-- The set of a key, which is in this slot, is taken away.
pub record IsRemoved (before : List Slotted) (key : SetKey) (slot : ℕ) (after : List Slotted) : Type 0 where
  pub at : ℕ
  pub taken : IsTakenAt before at slot after
  pub same_key : key_of taken.set ≡ key

-- the set at a place is in this slot
abbrev pub IsSlotAt : List Slotted → ℕ → (slot : ℕ) → Type 0
IsSlotAt placed at slot = (set : RecordSet) × (slice_get placed at ≡ Some (record { slot = slot; set = set }))
