-- A file that is built: how far it is, and its gate.
use Rattle.std.specs.Prelude.{◌≡◌, ℕ, List, [], ◌∷◌, drop}
use Rattle.gate_journal.specs.Disk.{written}

-- A compaction: the new file's snapshot, the place in the active file from which on entries are copied, and the place of
-- the byte that is written next, which is 0 until the gate is closed.
pub record Plan : Type 0 where
  pub snapshot : List ℕ
  pub from : ℕ
  pub next : ℕ

-- a file whose gate is closed
pub record IsShut (file : List ℕ) : Type 0 where
  pub gate : ℕ
  pub rest : List ℕ
  pub is : file ≡ gate ∷ rest
  pub closed : gate ≡ 1 → ⊥

-- a shut file with a closed gate written at a place of it, and then opened
abbrev pub gate_opened : List ℕ → ℕ → List ℕ
gate_opened file next = 1 ∷ drop 1 (written file next (0 ∷ []))
