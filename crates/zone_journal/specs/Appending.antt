-- What an append on two disks leaves.
use Rattle.std.specs.Prelude.{◌≡◌, ◌⊎◌, ℕ, ◌+◌, ◌<◌, ◌≤◌, List, [], ◌∷◌, ◌++◌, Some}
use Rattle.file_building.specs.Layout.{most}
use Rattle.file_building.specs.AppendedRecord.{Appended}
use Rattle.file_building.specs.AppendedRecord.TheVariants as appended
use Rattle.zone_journal.specs.Pairs.{OpensPair}
use Rattle.file_building.specs.Building.{Plan}
use Rattle.zone_journal.specs.Standing.{State, planned_length}

-- the files open to the entries, with one more or without it
abbrev pub IsBeforeOrAfter : ℕ → List ℕ → List (List ℕ) → List ℕ → (x y : List ℕ) → Type 0
IsBeforeOrAfter g s es entry x y = OpensPair x y g s es ⊎ OpensPair x y g s (es ++ entry ∷ [])

-- the entries after an append
abbrev pub AppendLeaves : Appended → ℕ → List ℕ → List (List ℕ) → List ℕ → (x y : List ℕ) → Type 0
AppendLeaves appended.Done g s es entry x y = OpensPair x y g s (es ++ entry ∷ [])
AppendLeaves (appended.Full n) g s es entry x y = OpensPair x y g s es
AppendLeaves appended.DiskFault g s es entry x y = IsBeforeOrAfter g s es entry x y

-- What a crash may leave at each moment of an append, by its answer: where it is Full, the old entries alone.
abbrev pub MayLeave : Appended → ℕ → List ℕ → List (List ℕ) → List ℕ → (x y : List ℕ) → Type 0
MayLeave appended.Done g s es entry x y = IsBeforeOrAfter g s es entry x y
MayLeave (appended.Full n) g s es entry x y = OpensPair x y g s es
MayLeave appended.DiskFault g s es entry x y = IsBeforeOrAfter g s es entry x y

-- the journal after an append of n bytes: its closed gate moves on, and all else stays
abbrev pub MovesOn : Appended → (old : State) (n : ℕ) (new : State) → Type 0
MovesOn appended.Done old n new = new ≡ record old { at = old.at + (5 + n) }
MovesOn (appended.Full length) old n new = new ≡ old
MovesOn appended.DiskFault old n new = new ≡ old

-- An entry of n bytes fits into the active file, and into the one that is built.
pub record Fits (v : State) (n : ℕ) : Type 0 where
  pub active : v.at + 1 + 5 + n ≤ most
  pub new : (p : Plan) → v.plan ≡ Some p → planned_length v p + 5 + n ≤ most

-- It does not fit into a file of this length: the active one, or else the one that is built.
abbrev pub RefusesBy : (length : ℕ) → State → (n : ℕ) → Type 0
RefusesBy length v n =
    ((length ≡ v.at + 1) × (most < v.at + 1 + 5 + n))
    ⊎ ((v.at + 1 + 5 + n ≤ most)
    × ((p : Plan) × (v.plan ≡ Some p) × (length ≡ planned_length v p) × (most < planned_length v p + 5 + n)))

-- Why each answer comes: a case for each, so that no answer is free.
abbrev pub HasCause : Appended → State → (n : ℕ) → Type 0
HasCause appended.Done v n = Fits v n
HasCause (appended.Full length) v n = RefusesBy length v n
HasCause appended.DiskFault v n = Fits v n
