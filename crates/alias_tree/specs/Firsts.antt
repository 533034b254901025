-- The first set of a list that has something.
use Rattle.std.specs.Prelude.{◌≡◌, ◌<◌, ℕ, List, length, slice_get, Option, None, Some}
use Rattle.set_search.specs.RecordSetRecord.{RecordSet}

-- the set at place i has it
abbrev pub HasAt : (RecordSet → Type 0) → List RecordSet → (i : ℕ) → Type 0
HasAt Has sets i = (set : RecordSet) × (slice_get sets i ≡ Some set) × Has set

-- no set before place n has it
abbrev pub NoneBefore : (RecordSet → Type 0) → List RecordSet → (n : ℕ) → Type 0
NoneBefore Has sets n = (i : ℕ) → i < n → HasAt Has sets i → ⊥

-- the place of the first set that has it; None where no set has it
abbrev pub IsFirstPlace : (RecordSet → Type 0) → List RecordSet → Option ℕ → Type 0
IsFirstPlace Has sets None = NoneBefore Has sets (length sets)
IsFirstPlace Has sets (Some i) = HasAt Has sets i × NoneBefore Has sets i
