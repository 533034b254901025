-- What the files of a server are.
use Rattle.std.proofs.Common.{◌≡◌, ◌+◌, ℕ, List, Option, subst, sym}
use Rattle.line_bounds.specs.Configs.{Config}
use Rattle.line_server.specs.Holding.{Holds}
use Rattle.line_server.specs.Journaled.{State as Kept, config_of}
use Rattle.line_server.specs.Laws.{StandingOpens, StandingShapes}
use Rattle.line_server.specs.Opening.{IsShape}
use Rattle.list_sending.specs.Engine.{Engine}
use Rattle.session_server.specs.Files.{AreFilesOf, AreOpenAlike, FilesOpen}
use Rattle.zone_journal.specs.Pairs.{BothRead}
use Rattle.zone_journal.specs.Standing.{StandsOn}
use Rattle.zone_journal.specs.declared.answers.Side.{Side}

-- where a journal stands on files that hold a configuration
pub files_open : {D : Type 0} (reading : D → Option (List ℕ)) (images : D → List ℕ → Type 0)
    → StandingOpens reading images → (kept : Kept) (a b : D)
    → StandsOn reading images kept.journal a b → BothRead reading a b (Holds kept)
    → (config : Config) → config ≡ config_of kept → FilesOpen images a b config
files_open reading images law kept a b stands leaves config is =
    subst (λ (c : Config). FilesOpen images a b c) (sym is)
    (λ u v left right. record {
      generation = kept.journal.generation;
      snapshot = leaves.has.snapshot;
      entries = leaves.has.entries;
      opens = law kept.journal a b leaves.x leaves.y kept.journal.generation leaves.has.snapshot
          leaves.has.entries (config_of kept) stands leaves.a_reads leaves.b_reads leaves.has.opens u
          v left right;
    })

-- and what its journal is told to be
pub are_files : {D : Type 0} (reading : D → Option (List ℕ)) (images : D → List ℕ → Type 0)
    → StandingOpens reading images → StandingShapes reading images → (kept : Kept) (a b : D)
    → StandsOn reading images kept.journal a b → BothRead reading a b (Holds kept)
    → (engine : Engine) → engine.config ≡ config_of kept
    → engine.journal.side ≡ kept.journal.side → engine.journal.generation ≡ kept.journal.generation
    → engine.journal.length ≡ kept.journal.at + 1 → AreFilesOf images a b engine
are_files reading images opens shapes kept a b stands leaves engine is side generation long =
    record {
      opens = files_open reading images opens kept a b stands leaves engine.config is;
      shape = λ u v left right.
          subst (λ (s : Side). IsShape u v s engine.journal.generation engine.journal.length)
          (sym side)
          (subst (λ (g : ℕ). IsShape u v kept.journal.side g engine.journal.length)
          (sym generation)
          (subst (λ (n : ℕ). IsShape u v kept.journal.side kept.journal.generation n) (sym long)
          (shapes kept.journal a b leaves.x leaves.y kept.journal.generation leaves.has.snapshot
          leaves.has.entries stands leaves.a_reads leaves.b_reads leaves.has.opens.opens u v left
          right)));
    }

-- where only the configuration is told
pub open_alike : {D : Type 0} (reading : D → Option (List ℕ)) (images : D → List ℕ → Type 0)
    → StandingOpens reading images → StandingShapes reading images → (kept : Kept) (a b : D)
    → StandsOn reading images kept.journal a b → BothRead reading a b (Holds kept)
    → (config : Config) → config ≡ config_of kept → AreOpenAlike images a b config
open_alike reading images opens shapes kept a b stands leaves config is = record {
  opens = files_open reading images opens kept a b stands leaves config is;
  side = kept.journal.side;
  generation = kept.journal.generation;
  size = kept.journal.at + 1;
  shape = λ u v left right. shapes kept.journal a b leaves.x leaves.y kept.journal.generation
      leaves.has.snapshot leaves.has.entries stands leaves.a_reads leaves.b_reads
      leaves.has.opens.opens u v left right;
}
