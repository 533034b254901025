-- Groups as runs of neighbours.
use Rattle.std.specs.Prelude.{◌≡◌, ◌≢◌, ◌≤◌, ◌<◌, ◌+◌, ◌⊎◌, ◌↔◌, ℕ, List, slice_get, Some}
use Rattle.rdata_layout.specs.declared.types.RType.TheVariants as rtype
use Rattle.batch_model.specs.RecordSetRecord.{RecordSet}
use Rattle.batch_model.specs.Zones.{AreOneGroup}

-- The group of the set at place i begins at this place.
pub record IsStart (sets : List RecordSet) (start i : ℕ) : Type 0 where
  pub within : start ≤ i
  pub same : (k : ℕ) (x y : RecordSet) → k ≤ i → slice_get sets k ≡ Some x → slice_get sets i ≡ Some y → (start ≤ k ↔ AreOneGroup x y)

-- the group of the set before place i, if there is one, begins at this place
abbrev pub IsStartBefore : List RecordSet → (start i : ℕ) → Type 0
IsStartBefore sets start i = (j : ℕ) → j + 1 ≡ i → IsStart sets start j

-- Of the sets before place n, none is of one group with a set 100 places before it.
abbrev pub NoneFarBefore : List RecordSet → ℕ → Type 0
NoneFarBefore sets n =
    (j k : ℕ) (x y : RecordSet) → k < n → j + 100 ≤ k → slice_get sets j ≡ Some x → slice_get sets k ≡ Some y → AreOneGroup x y → ⊥

-- a set of this name is of another type than CNAME
abbrev pub IsOther : RecordSet → RecordSet → Type 0
IsOther other set = (other.name ≡ set.name) × (other.rtype ≢ rtype.Cname)

-- The set at place i is a CNAME at the apex, or has a set of its name and another type next to it.
pub record IsConflicted (sets : List RecordSet) (apex : List (List ℕ)) (i : ℕ) : Type 0 where
  pub set : RecordSet
  pub there : slice_get sets i ≡ Some set
  pub cname : set.rtype ≡ rtype.Cname
  pub why : (set.name ≡ apex)
      ⊎ ((other : RecordSet) × (j : ℕ) × (j + 1 ≡ i) × (slice_get sets j ≡ Some other) × IsOther other set)
      ⊎ ((other : RecordSet) × (slice_get sets (i + 1) ≡ Some other) × IsOther other set)
