-- Sets in zone order, one after another.
use Rattle.std.specs.Prelude.{◌≡◌, ◌<◌, ◌≤◌, ◌≢◌, ◌⊎◌, ℕ, ◌+◌, List, [], ◌∷◌, ◌++◌, slice_get, Some}
use Rattle.std.specs.declared.cmp.Ordering.TheVariants.{Less}
use Rattle.record_set.specs.declared.sets.RecordSet.{RecordSet}
use Rattle.record_set.specs.declared.sets.SetKey.{SetKey}
use Rattle.record_set.specs.Sets.{key_of}
use Rattle.config_model.specs.Keys.{key_cmp}

-- The first place from one on at which a set's key isn't below that of another set.
pub record IsNextPlace (others : List RecordSet) (from : ℕ) (set : RecordSet)
    (place : ℕ) : Type 0 where
  pub order : from ≤ place
  pub below : (k : ℕ) (other : RecordSet) → from ≤ k → k < place → slice_get others k ≡ Some other
      → key_cmp (key_of other) (key_of set) ≡ Less
  pub here : (other : RecordSet) → slice_get others place ≡ Some other
      → key_cmp (key_of other) (key_of set) ≢ Less

-- The set stands among the others, right before this place, and each of them from one on to it is
-- below.
pub record IsThereFrom (others : List RecordSet) (from : ℕ) (set : RecordSet)
    (next : ℕ) : Type 0 where
  pub place : ℕ
  pub behind : next ≡ place + 1
  pub there : slice_get others place ≡ Some set
  pub first : IsNextPlace others from set place

-- It is not at the place at which it would stand.
pub record IsAbsentFrom (others : List RecordSet) (from : ℕ) (set : RecordSet)
    (next : ℕ) : Type 0 where
  pub first : IsNextPlace others from set next
  pub absent : slice_get others next ≡ Some set → ⊥

-- What is added of a set: nothing where it is among the others; else its key, or it.
abbrev pub AddsKey : (others : List RecordSet) (from : ℕ) (set : RecordSet) (next : ℕ)
    → (old new : List SetKey) → Type 0
AddsKey others from set next old new =
    (IsThereFrom others from set next × (new ≡ old))
    ⊎ (IsAbsentFrom others from set next × (new ≡ old ++ key_of set ∷ []))

abbrev pub AddsSet : (others : List RecordSet) (from : ℕ) (set : RecordSet) (next : ℕ)
    → (old new : List RecordSet) → Type 0
AddsSet others from set next old new =
    (IsThereFrom others from set next × (new ≡ old))
    ⊎ (IsAbsentFrom others from set next × (new ≡ old ++ set ∷ []))
