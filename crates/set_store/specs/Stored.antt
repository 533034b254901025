-- What a store of sets holds.
use Rattle.std.specs.Prelude.{◌≡◌, ℕ, zero, suc, List, [], ◌∷◌, Option, None, Some, slice_get}
use Rattle.set_search.specs.RecordSetRecord.{RecordSet}
pub use Rattle.set_scratch.specs.Spelling.{Spells}

-- A set, and the number of the zone that it is of.
pub record Kept : Type 0 where
  pub zone : ℕ
  pub set : RecordSet

-- For each slot what is kept there, if anything is; how many cells are free; and how many slots can
-- be given without memory.
pub record Slots : Type 0 where
  pub slots : List (Option Kept)
  pub cells : ℕ
  pub free : ℕ

-- it is kept in the slot
abbrev pub IsKept : List (Option Kept) → (slot : ℕ) → Kept → Type 0
IsKept slots slot kept = slice_get slots slot ≡ Some (Some kept)

-- something is kept in the slot
abbrev pub IsInUse : List (Option Kept) → (slot : ℕ) → Type 0
IsInUse slots slot = (kept : Kept) × IsKept slots slot kept

-- nothing is kept in the slot
abbrev pub IsVacant : List (Option Kept) → (slot : ℕ) → Type 0
IsVacant slots slot = slice_get slots slot ≡ Some None

-- so many slots in which nothing is kept
abbrev pub nothing : ℕ → List (Option Kept)
nothing zero = []
nothing (suc n) = None ∷ nothing n

-- the octets of a set
abbrev pub IsSpelling : List ℕ → Type 0
IsSpelling octets = (set : RecordSet) × Spells octets set

-- the number of the zone of what is kept, if anything is
abbrev pub zone_told : Option (Option Kept) → Option ℕ
zone_told None = None
zone_told (Some None) = None
zone_told (Some (Some kept)) = Some kept.zone
