-- What a journal over two disks stands on.
use Rattle.std.specs.Prelude.{◌≡◌, ◌⊎◌, ℕ, ◌+◌, ◌-◌, ◌<◌, ◌≤◌, ◌^◌, List, ◌++◌, length, take, drop, Option, Some, None}
use Rattle.file_building.specs.Disk.{Only}
use Rattle.file_building.specs.Layout.{front, inner, opened, OpensTo, generation_of, most}
use Rattle.file_building.specs.Append.{StandsOn as EndsOn}
use Rattle.file_building.specs.Read.{ReadsOn as ReadsFile}
use Rattle.file_building.specs.Building.{Plan, IsShut}
use Rattle.zone_journal.specs.Pairs.{active_of, other_of, Yields}
use Rattle.zone_journal.specs.declared.answers.Progress.{Progress}
use Rattle.zone_journal.specs.declared.answers.Side.{Side}

-- A journal: the side that decides, its file's generation, the gate of it that is read next, or the closed one, and the
-- compaction that is in progress.
pub record State : Type 0 where
  pub side : Side
  pub generation : ℕ
  pub at : ℕ
  pub plan : Option Plan

-- the length of the file that a compaction builds
abbrev pub planned_length : State → Plan → ℕ
planned_length v p = 21 + length p.snapshot + (v.at - p.from)

-- how many of its bytes are unwritten: the file gate counts until the end
abbrev pub left_of : State → Plan → ℕ
left_of v p = planned_length v p - (p.next - 1)

-- how far the compaction is: its planned length, and the bytes that count as written
abbrev pub progress_with : State → Option Plan → Option Progress
progress_with v None = None
progress_with v (Some p) = Some (record { length = planned_length v p; written = p.next - 1 })

abbrev pub progress_of : State → Option Progress
progress_of v = progress_with v v.plan

-- the planned file from byte 1 to its closed gate, with these entries appended since the compaction began
abbrev pub planned : ℕ → List ℕ → List (List ℕ) → List ℕ
planned generation snapshot since = inner generation snapshot ++ opened since

-- The sums of a compaction fit.
pub record PlanFits (v : State) (p : Plan) : Type 0 where
  pub generation : v.generation + 1 < 2 ^ 64
  pub from : p.from ≤ v.at
  pub length : planned_length v p ≤ most
  pub next : p.next + 1 ≤ planned_length v p

-- No byte of a new file is written, and the other file's gate stands as it was.
abbrev pub IsIdle : State → Type 0
IsIdle v = (p : Plan) → v.plan ≡ Some p → p.next ≡ 0

-- The other file while it is built: every crash leaves it shut.
pub record IsUnderway (next : ℕ) (other : List ℕ) (images : List ℕ → Type 0) : Type 0 where
  pub reaches : next ≤ length other
  pub shut : IsShut other
  pub all_shut : (c : List ℕ) → images c → IsShut c

-- The bytes that count as written are those of the planned file, with the entries since the compaction began.
pub record HasCopied (v : State) (p : Plan) (active other : List ℕ) : Type 0 where
  pub snapshot : List ℕ
  pub entries : List (List ℕ)
  pub since : List (List ℕ)
  pub opens : OpensTo active v.generation snapshot (entries ++ since)
  pub place : p.from ≡ length (front v.generation snapshot entries)
  pub bytes : take (p.next - 1) (drop 1 other) ≡ take (p.next - 1) (planned (v.generation + 1) p.snapshot since)

-- The journal stands with this disk as the active one and that as the other.
pub record StandsWith {D : Type 0} (reading : D → Option (List ℕ)) (images : D → List ℕ → Type 0) (v : State) (active other : D) : Type 0 where
  pub journal : EndsOn reading images v.at active
  pub generation : (x : List ℕ) → reading active ≡ Some x → generation_of x ≡ v.generation
  pub fits : v.generation < 2 ^ 64
  pub yields : (y : List ℕ) → reading other ≡ Some y → (c : List ℕ) → images other c → Yields v.side v.generation c
  pub idle : IsIdle v → (y : List ℕ) → reading other ≡ Some y → Only y (images other)
  pub plan : (p : Plan) → v.plan ≡ Some p → PlanFits v p
  pub underway : (p : Plan) → v.plan ≡ Some p → 1 ≤ p.next → (y : List ℕ) → reading other ≡ Some y → IsUnderway p.next y (images other)
  pub copied : (p : Plan) → v.plan ≡ Some p → (x y : List ℕ) → reading active ≡ Some x → reading other ≡ Some y → HasCopied v p x y

-- The journal stands on the two disks.
abbrev pub StandsOn : {D : Type 0} → (D → Option (List ℕ)) → (D → List ℕ → Type 0) → State → (a b : D) → Type 0
StandsOn reading images v a b = StandsWith reading images v (active_of v.side a b) (other_of v.side a b)

-- The journal reads with this disk as the active one and that as the other.
pub record ReadsWith {D : Type 0} (reading : D → Option (List ℕ)) (images : D → List ℕ → Type 0) (v : State) (active other : D) : Type 0 where
  pub journal : ReadsFile reading images v.at active
  pub generation : (x : List ℕ) → reading active ≡ Some x → generation_of x ≡ v.generation
  pub fits : v.generation < 2 ^ 64
  pub yields : (y : List ℕ) → reading other ≡ Some y → Yields v.side v.generation y
  pub durable : (y : List ℕ) → reading other ≡ Some y → Only y (images other)
  pub no_plan : v.plan ≡ None

-- The journal reads on the two disks.
abbrev pub ReadsOn : {D : Type 0} → (D → Option (List ℕ)) → (D → List ℕ → Type 0) → State → (a b : D) → Type 0
ReadsOn reading images v a b = ReadsWith reading images v (active_of v.side a b) (other_of v.side a b)

-- The journal is at a gate of its file: it reads on there, or it stands at the closed gate, with a compaction in progress
-- or without.
abbrev pub IsOn : {D : Type 0} → (D → Option (List ℕ)) → (D → List ℕ → Type 0) → State → (a b : D) → Type 0
IsOn reading images v a b = ReadsOn reading images v a b ⊎ StandsOn reading images v a b
