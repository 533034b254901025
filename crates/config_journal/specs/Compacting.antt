-- What pieces of a compaction come to.
use Rattle.std.specs.Prelude.{◌≡◌, ◌≢◌, ◌⊎◌, ℕ, IsSome, None}
use Rattle.config_journal.specs.Journals.{journal_of}
use Rattle.config_journal.specs.States.{State, config_of}
use Rattle.engine_model.specs.Compacting.{IsLastGeneration, after_pieces, compacted, told_of}
use Rattle.engine_model.specs.declared.answers.Compacted.{Compacted}
use Rattle.engine_model.specs.declared.answers.Compacted.TheVariants as compacted
use Rattle.zone_journal.specs.Standing.{State as Journal}
use Rattle.zone_journal.specs.declared.answers.Piece.{Piece}
use Rattle.zone_journal.specs.declared.answers.Piece.TheVariants as piece

-- So many pieces were made of the compaction that was in progress, or of one that began with them.
-- They leave the configuration.
pub record IsCompacted (outcome : Compacted) (old : State) (pieces : ℕ) (new : State)
    : Type 0 where
  pub goes_on : IsLastGeneration (journal_of old.journal) → ⊥
  pub config : new.config ≡ old.config
  pub journal : journal_of new.journal
      ≡ compacted (config_of old) pieces (journal_of old.journal) (journal_of old.journal).plan
  pub told : outcome ≡ told_of (journal_of new.journal) (journal_of new.journal).plan

-- What an answer says, a line for each. Memory is wanted for a compaction that would begin alone. A
-- fault of a disk drops the compaction; it comes of a piece alone, and behind the last generation
-- none is made.
abbrev pub CompactGives : Compacted → (old : State) → (pieces : ℕ) → (new : State) → Type 0
CompactGives (compacted.Left left) old pieces new =
    IsCompacted (compacted.Left left) old pieces new
CompactGives (compacted.Done generation) old pieces new =
    IsCompacted (compacted.Done generation) old pieces new
CompactGives compacted.GenerationsEnded old pieces new =
    IsLastGeneration (journal_of old.journal) × (new ≡ old)
CompactGives compacted.OutOfMemory old pieces new = (old.journal.plan ≡ None) × (new ≡ old)
CompactGives compacted.DiskFault old pieces new =
    (IsLastGeneration (journal_of old.journal) → ⊥)
    × (new.config ≡ old.config) × (new.journal.plan ≡ None)

-- P, but where a disk failed
abbrev pub UnlessFaulty : Compacted → Type 0 → Type 0
UnlessFaulty outcome P = outcome ≢ compacted.DiskFault → P

-- P, where no piece was made
abbrev pub WhereNone : Compacted → Type 0 → Type 0
WhereNone outcome P =
    (outcome ≡ compacted.GenerationsEnded) ⊎ (outcome ≡ compacted.OutOfMemory) → P

-- ---- pieces of a compaction in progress

-- The journal after so many pieces, and what is told of it.
pub record HasGoneOn (outcome : Compacted) (old : Journal) (pieces : ℕ) (new : Journal)
    : Type 0 where
  pub journal : journal_of new ≡ after_pieces pieces (journal_of old) (journal_of old).plan
  pub told : outcome ≡ told_of (journal_of new) (journal_of new).plan

-- What an answer to a piece says, or to more of them: octets are left where the compaction is in
-- progress still, and none is after a fault of a disk.
abbrev pub PiecesGive : Compacted → (old : Journal) → (pieces : ℕ) → (new : Journal) → Type 0
PiecesGive (compacted.Left left) old pieces new =
    HasGoneOn (compacted.Left left) old pieces new × IsSome new.plan × (new.side ≡ old.side)
PiecesGive (compacted.Done generation) old pieces new =
    HasGoneOn (compacted.Done generation) old pieces new
PiecesGive compacted.GenerationsEnded old pieces new = ⊥
PiecesGive compacted.OutOfMemory old pieces new = ⊥
PiecesGive compacted.DiskFault old pieces new = new.plan ≡ None

-- what is told of a piece
abbrev pub told_as : Piece → Compacted
told_as (piece.Running left) = compacted.Left left
told_as (piece.Done generation) = compacted.Done generation
told_as piece.DiskFault = compacted.DiskFault
