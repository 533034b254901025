-- When a store stands for what the definitions have, and what a command and a compaction make of it.
use Rattle.std.specs.Prelude.{◌≡◌, ◌≢◌, ◌⊎◌, ℕ, [], None, Result, Err}
use Rattle.sound_configs.specs.CommandRecord.{Command}
use Rattle.config_opening.specs.Journals.{journal_of}
use Rattle.config_opening.specs.States.{State as Kept, config_of}
use Rattle.sound_configs.specs.MadeRecord.{Made}
use Rattle.sound_configs.specs.RefusalRecord.{Refusal}
use Rattle.sound_configs.specs.RefusalRecord.TheVariants as refusal
use Rattle.sound_configs.specs.Compacting.{CompactionSteps, IsLastGeneration}
use Rattle.sound_configs.specs.Engine.{CommandSteps, Engine, Fits, Journal, size_of}
use Rattle.sound_configs.specs.CompactedRecord.{Compacted}
use Rattle.sound_configs.specs.CompactedRecord.TheVariants as compacted
use Rattle.sound_configs.specs.Index.{Index, StandsFor as HasHealth}
use Rattle.config_opening.specs.Kept.{IsAccepted}

-- What is kept of the configuration with its journal, and the index of health.
pub record State : Type 0 where
  pub kept : Kept
  pub index : Index

-- The store stands for a configuration, all reports since the opening, and a journal.
pub record StandsFor (engine : Engine) (state : State) : Type 0 where
  pub config : engine.config ≡ config_of state.kept
  pub health : HasHealth state.kept.config.table.zones state.kept.config.checks.checks
      engine.reports state.index
  pub journal : engine.journal ≡ journal_of state.kept.journal

-- what a store stands for that was just opened
abbrev pub opened : Kept → Engine
opened kept = record {
  config = config_of kept;
  reports = [];
  journal = journal_of kept.journal;
}

-- What a command makes of a store. Where memory is wanted it stands for what it stood for, and where
-- a disk failed too: that comes of a command that is accepted and fits alone. Else it stands for what
-- the definitions make of that, with their outcome.
abbrev pub CommandGives : Engine → Command → Result Made Refusal → (new : State) → Type 0
CommandGives engine given outcome new =
    ((outcome ≡ Err refusal.OutOfMemory) × StandsFor engine new)
    ⊎ ((outcome ≡ Err refusal.DiskFault) × IsAccepted engine.config given
    × Fits (size_of given) engine.journal × StandsFor engine new)
    ⊎ ((after : Engine) × CommandSteps engine given outcome after × StandsFor after new)

-- What so many pieces of a compaction make of a store. Where memory is wanted none was in progress,
-- and it stands for what it stood for. Where a disk failed it stands for the configuration and the
-- reports, with a journal without a compaction: that comes of a piece alone, and behind the last
-- generation none is made. Else it stands for what the definitions make of that, with their outcome.
abbrev pub CompactionGives : Engine → (pieces : ℕ) → Compacted → (new : State) → Type 0
CompactionGives engine pieces outcome new =
    ((outcome ≡ compacted.OutOfMemory) × (engine.journal.plan ≡ None) × StandsFor engine new)
    ⊎ ((outcome ≡ compacted.DiskFault) × (IsLastGeneration engine.journal → ⊥)
    × ((journal : Journal) × (journal.plan ≡ None)
    × StandsFor (record engine { journal = journal }) new))
    ⊎ ((after : Engine) × CompactionSteps engine pieces outcome after × StandsFor after new)

-- P, where a command is refused other than by a fault of a disk
abbrev pub Untouched : Result Made Refusal → Type 0 → Type 0
Untouched outcome P = (why : Refusal) → outcome ≡ Err why → why ≢ refusal.DiskFault → P
