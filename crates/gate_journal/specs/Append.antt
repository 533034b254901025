-- What a journal stands on, and what an append leaves.
use Rattle.std.specs.Prelude.{◌≡◌, ◌⊎◌, ℕ, ◌+◌, ◌<◌, ◌≤◌, ◌^◌, List, [], ◌∷◌, ◌++◌, length, Option, Some, ⊤}
use Rattle.r53_disk.specs.Disk.{Only}
use Rattle.gate_journal.specs.Layout.{front, OpensTo, most}
use Rattle.gate_journal.specs.declared.answers.Appended.{Appended}
use Rattle.gate_journal.specs.declared.answers.Appended.TheVariants as appended

-- The file is whole up to its first closed gate, which is at this place.
pub record EndsAt (at : ℕ) (file : List ℕ) : Type 0 where
  pub generation : ℕ
  pub snapshot : List ℕ
  pub entries : List (List ℕ)
  pub opens : OpensTo file generation snapshot entries
  pub place : at ≡ length (front generation snapshot entries)

-- A journal at the closed gate of its file, which a crash leaves as it reads.
pub record StandsOn {D : Type 0} (reading : D → Option (List ℕ)) (images : D → List ℕ → Type 0) (at : ℕ) (disk : D) : Type 0 where
  pub within : at + 1 < 2 ^ 64
  pub file : (bytes : List ℕ) → reading disk ≡ Some bytes → EndsAt at bytes
  pub durable : (bytes : List ℕ) → reading disk ≡ Some bytes → Only bytes (images disk)

-- the file opens to the entries, with one more or without it
abbrev pub IsBeforeOrAfter : ℕ → List ℕ → List (List ℕ) → List ℕ → List ℕ → Type 0
IsBeforeOrAfter generation snapshot entries entry file =
    OpensTo file generation snapshot entries ⊎ OpensTo file generation snapshot (entries ++ entry ∷ [])

-- the entries after an append
abbrev pub AppendLeaves : Appended → ℕ → List ℕ → List (List ℕ) → List ℕ → List ℕ → Type 0
AppendLeaves appended.Done generation snapshot entries entry file =
    OpensTo file generation snapshot (entries ++ entry ∷ [])
AppendLeaves (appended.Full n) generation snapshot entries entry file = OpensTo file generation snapshot entries
AppendLeaves appended.DiskFault generation snapshot entries entry file =
    IsBeforeOrAfter generation snapshot entries entry file

-- What a crash may leave at each moment of an append, by its answer: where it is Full, the old entries alone.
abbrev pub MayLeave : Appended → ℕ → List ℕ → List (List ℕ) → List ℕ → List ℕ → Type 0
MayLeave appended.Done generation snapshot entries entry file = IsBeforeOrAfter generation snapshot entries entry file
MayLeave (appended.Full n) generation snapshot entries entry file = OpensTo file generation snapshot entries
MayLeave appended.DiskFault generation snapshot entries entry file =
    IsBeforeOrAfter generation snapshot entries entry file

-- the place of the closed gate after an append of n bytes
abbrev pub MovesOn : Appended → (old n new : ℕ) → Type 0
MovesOn appended.Done old n new = new ≡ old + (5 + n)
MovesOn (appended.Full length) old n new = new ≡ old
MovesOn appended.DiskFault old n new = new ≡ old

-- Why each answer comes, of an append of n bytes: a case for each, so that no answer is free.
abbrev pub HasCause : Appended → (at n : ℕ) → Type 0
HasCause appended.Done at n = at + 1 + 5 + n ≤ most
HasCause (appended.Full length) at n = (length ≡ at + 1) × (most < at + 1 + 5 + n)
HasCause appended.DiskFault at n = at + 1 + 5 + n ≤ most

-- P, but where the disk failed
abbrev pub UnlessFault : Appended → Type 0 → Type 0
UnlessFault appended.Done P = P
UnlessFault (appended.Full n) P = P
UnlessFault appended.DiskFault P = ⊤

-- P, where the entry does not fit
abbrev pub OnFull : Appended → Type 0 → Type 0
OnFull appended.Done P = ⊤
OnFull (appended.Full n) P = P
OnFull appended.DiskFault P = ⊤
