-- What a compaction leaves, piece by piece.
use Rattle.std.specs.Prelude.{◌≡◌, ◌⊎◌, ℕ, ◌+◌, ◌-◌, ◌<◌, ◌≤◌, ◌^◌, min, List, ◌++◌, length, Option, Some, None, ⊤}
use Rattle.file_building.specs.Layout.{front, OpensTo}
use Rattle.zone_journal.specs.Pairs.{OpensPair, Yields, opposite}
use Rattle.file_building.specs.Building.{Plan}
use Rattle.zone_journal.specs.Standing.{State, StandsWith, planned_length, left_of}
use Rattle.zone_journal.specs.declared.answers.Begun.{Begun}
use Rattle.zone_journal.specs.declared.answers.Begun.TheVariants as begun
use Rattle.zone_journal.specs.declared.answers.Piece.{Piece}
use Rattle.zone_journal.specs.declared.answers.Piece.TheVariants as piece

-- the journal with this compaction in progress
abbrev pub with_plan : State → Plan → State
with_plan v p = record v { plan = Some p }

-- A compaction begins at the closed gate, with nothing written and its closing piece to come.
abbrev pub Begins : Begun → List ℕ → (old new : State) → Type 0
Begins begun.Begun snapshot old new =
    (old.generation + 1 < 2 ^ 64) × (new ≡ with_plan old (record { snapshot = snapshot; from = old.at; next = 0 }))
Begins begun.GenerationsEnded snapshot old new = (old.generation + 1 ≡ 2 ^ 64) × (new ≡ old)

-- These are the entries of the active file that were appended since the compaction began.
pub record IsSince (generation : ℕ) (p : Plan) (active : List ℕ) (since : List (List ℕ)) : Type 0 where
  pub snapshot : List ℕ
  pub entries : List (List ℕ)
  pub opens : OpensTo active generation snapshot (entries ++ since)
  pub place : p.from ≡ length (front generation snapshot entries)

-- Only the closed gate and the file gate are left.
abbrev pub IsLast : State → Plan → Type 0
IsLast v p = (1 ≤ p.next) × (left_of v p ≡ 2)

-- the byte that is written next after a piece of up to 65,536 bytes, where so many were left
abbrev pub next_place : (next left : ℕ) → ℕ
next_place next left = next + min 65536 (left - 2)

-- The byte that is written next after a piece that is not the last: the first one closes the gate, and each later one
-- copies up to 65,536 bytes.
abbrev pub IsNext : State → Plan → ℕ → Type 0
IsNext v p next =
    ((p.next ≡ 0) × (next ≡ 1))
    ⊎ ((1 ≤ p.next) × (2 < left_of v p) × (next ≡ next_place p.next (left_of v p)))

-- The journal after a piece. At Done the new file is the active one. After a fault the compaction is dropped, and the
-- journal stands on the disks no more.
abbrev pub PieceMoves : Piece → (old : State) → Plan → (new : State) → Type 0
PieceMoves (piece.Running left) old p new =
    (next : ℕ) × IsNext old p next × (new ≡ with_plan old (record p { next = next })) × (left ≡ left_of old (record p { next = next }))
PieceMoves (piece.Done generation) old p new =
    IsLast old p × (generation ≡ old.generation + 1)
    × (new ≡ record { side = opposite old.side; generation = old.generation + 1; at = planned_length old p - 1; plan = None })
PieceMoves piece.DiskFault old p new = new ≡ record old { plan = None }

-- The files open to the old snapshot and all its entries; only the last piece may leave the new snapshot and the entries
-- since.
abbrev pub IsOldOrNew : State → Plan → ℕ → List ℕ → (entries since : List (List ℕ)) → (x y : List ℕ) → Type 0
IsOldOrNew v p g s entries since x y =
    OpensPair x y g s (entries ++ since) ⊎ (IsLast v p × OpensPair x y (g + 1) p.snapshot since)

-- what the files open to after a piece
abbrev pub PieceLeaves : Piece → State → Plan → ℕ → List ℕ → (entries since : List (List ℕ)) → (x y : List ℕ) → Type 0
PieceLeaves (piece.Running left) v p g s entries since x y = OpensPair x y g s (entries ++ since)
PieceLeaves (piece.Done generation) v p g s entries since x y = OpensPair x y (g + 1) p.snapshot since
PieceLeaves piece.DiskFault v p g s entries since x y = IsOldOrNew v p g s entries since x y

-- The other file does not decide, or the last piece has opened it.
abbrev pub YieldsOrOpens : State → Plan → (since : List (List ℕ)) → (other : List ℕ) → Type 0
YieldsOrOpens v p since other =
    Yields v.side v.generation other ⊎ (IsLast v p × OpensTo other (v.generation + 1) p.snapshot since)

-- the other file after a piece
abbrev pub OtherLeft : Piece → State → Plan → (since : List (List ℕ)) → (other : List ℕ) → Type 0
OtherLeft (piece.Running left) v p since other = Yields v.side v.generation other
OtherLeft (piece.Done generation) v p since other = OpensTo other (v.generation + 1) p.snapshot since
OtherLeft piece.DiskFault v p since other = YieldsOrOpens v p since other

-- The journal stands after a piece: at Done the other disk is the active one.
abbrev pub PieceStands : {D : Type 0} → (D → Option (List ℕ)) → (D → List ℕ → Type 0) → Piece → State → (active other : D) → Type 0
PieceStands reading images (piece.Running left) v active other = StandsWith reading images v active other
PieceStands reading images (piece.Done generation) v active other = StandsWith reading images v other active
PieceStands reading images piece.DiskFault v active other = ⊤

-- P, but where a disk failed
abbrev pub UnlessFault : Piece → Type 0 → Type 0
UnlessFault (piece.Running left) P = P
UnlessFault (piece.Done generation) P = P
UnlessFault piece.DiskFault P = ⊤
