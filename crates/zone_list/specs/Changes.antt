-- Changes of the sets of one zone.
use Rattle.std.specs.Prelude.{◌≡◌, ◌≢◌, ◌⊎◌, ◌↔◌, ℕ, List, [], ◌∷◌, length, slice_get, Some, ⊤}
use Rattle.std.specs.List.{AllByRecursion}
use Rattle.zone_changes.specs.RecordSetRecord.{RecordSet}
use Rattle.zone_changes.specs.SetKeyRecord.{SetKey}
use Rattle.zone_changes.specs.Sets.{key_of}
use Rattle.zone_changes.specs.Placing.{IsThere, placed, without}
use Rattle.zone_changes.specs.Zones.{IsAmong}
use Rattle.zone_changes.specs.Slotted.{Slotted, IsHere, AreOfZone, sets_of}
use Rattle.zone_list.specs.declared.refs.SetRef.{SetRef}
use Rattle.zone_list.specs.Zones.{CanStand}

-- ---- which changes are allowed

-- the keys are there, and none is named twice
abbrev pub AreThere : List RecordSet → List SetKey → Type 0
AreThere sets [] = ⊤
AreThere sets (key ∷ keys) = IsThere sets key × AllByRecursion (λ other. key ≢ other) keys
    × AreThere sets keys

-- the keys of the sets differ
abbrev pub DifferByKey : List RecordSet → Type 0
DifferByKey [] = ⊤
DifferByKey (set ∷ sets) = AllByRecursion (λ other. key_of set ≢ key_of other) sets
    × DifferByKey sets

-- the key is one of these
abbrev pub IsKeyOf : List SetKey → SetKey → Type 0
IsKeyOf keys key = IsAmong keys key

-- Sets that can be added to a zone: each can stand in it, and their keys differ.
pub record CanBeAdded (apex : List (List ℕ)) (add : List RecordSet) : Type 0 where
  pub each : AllByRecursion (λ set. CanStand apex set) add
  pub differ : DifferByKey add

-- Sets can be changed: the keys to remove are there, and no key to add is there but one that is
-- removed.
pub record CanChange (apex : List (List ℕ)) (placed : List Slotted) (remove : List SetKey)
    (add : List RecordSet) : Type 0 where
  pub there : AreThere (sets_of placed) remove
  pub added : CanBeAdded apex add
  pub new : AllByRecursion (λ set. IsThere (sets_of placed) (key_of set)
      → IsKeyOf remove (key_of set)) add

-- ---- what a change makes

-- the reference of a set in a zone
abbrev pub ref_in : (zone : ℕ) → Slotted → SetRef
ref_in zone p = record { zone = zone; slot = p.slot }

-- the sets without those of the keys
abbrev pub without_all : List SetKey → List RecordSet → List RecordSet
without_all [] sets = sets
without_all (key ∷ keys) sets = without_all keys (without key sets)

-- the sets with these among them, each at its place in zone order
abbrev pub with_all : List RecordSet → List RecordSet → List RecordSet
with_all [] sets = sets
with_all (set ∷ add) sets = with_all add (placed set sets)

-- A key keeps its slot while it has a set, also where another set comes for it, and no slot goes
-- from one key to another.
abbrev pub KeepSlots : (before after : List Slotted) → Type 0
KeepSlots before after = (p q : Slotted) → IsHere before p → IsHere after q
    → (key_of p.set ≡ key_of q.set) ↔ (p.slot ≡ q.slot)

-- The sets of these keys are taken from a zone, and these sets are put, each in a slot of its own.
-- A set that is in neither list keeps its slot, and so its reference. The references that are told
-- are those of the two lists, in their order.
pub record Changes (zone : ℕ) (before : List Slotted) (remove : List SetKey) (add : List RecordSet)
    (removed added : List SetRef) (after : List Slotted) : Type 0 where
  pub sets : sets_of after ≡ with_all add (without_all remove (sets_of before))
  pub slots : KeepSlots before after
  pub stays : (p : Slotted) → IsHere before p → (IsKeyOf remove (key_of p.set) → ⊥) → IsHere after p
  pub comes : (i : ℕ) (set : RecordSet) → slice_get add i ≡ Some set
      → (slot : ℕ) × (slice_get added i ≡ Some (record { zone = zone; slot = slot }))
      × IsHere after (record { slot = slot; set = set })
  pub only : (p : Slotted) → IsHere after p
      → (IsHere before p × (IsKeyOf remove (key_of p.set) → ⊥))
      ⊎ ((i : ℕ) × (slice_get add i ≡ Some p.set) × (slice_get added i ≡ Some (ref_in zone p)))
  pub goes : (i : ℕ) (key : SetKey) → slice_get remove i ≡ Some key
      → (p : Slotted) × IsHere before p × (key_of p.set ≡ key)
      × (slice_get removed i ≡ Some (ref_in zone p))
  pub as_many_removed : length removed ≡ length remove
  pub as_many_added : length added ≡ length add
  pub of_zone : AreOfZone after
