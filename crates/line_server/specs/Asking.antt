-- Which lines ask a disk.
use Rattle.reply_sending.specs.CommandRecord.{Command}
use Rattle.serve_turns.specs.Compacting.{IsLastGeneration}
use Rattle.serve_turns.specs.Engine.{Engine, Fits, size_of}
use Rattle.serve_turns.specs.Kept.{IsAccepted}

-- A command is written down where it is accepted and its entry fits.
abbrev pub CommandAsksDisk : Command → Engine → Type 0
CommandAsksDisk given engine =
    IsAccepted engine.config given × Fits (size_of given) engine.journal

-- A piece of a compaction is made, but behind the last generation.
abbrev pub CompactionAsksDisk : Engine → Type 0
CompactionAsksDisk engine = IsLastGeneration engine.journal → ⊥
