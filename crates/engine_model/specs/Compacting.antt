-- What pieces of a compaction make of the store of a server (JOURNAL, A compaction).
use Rattle.std.specs.Prelude.{◌≡◌, ◌==◌, ◌⊎◌, ℕ, zero, suc, ◌+◌, ◌-◌, ◌^◌, min, length}
use Rattle.std.specs.Prelude.{Option, None, Some, if◌then◌else◌}
use Rattle.config_model.specs.Configs.{Config}
use Rattle.engine_model.specs.Engine.{Engine, Journal, Plan}
use Rattle.engine_model.specs.declared.answers.Compacted.{Compacted}
use Rattle.engine_model.specs.declared.answers.Compacted.TheVariants.{Done, GenerationsEnded, Left}
use Rattle.snapshot_octets.specs.Octets.{snapshot}
use Rattle.zone_journal.specs.Pairs.{opposite}

-- how many octets are unwritten: the file's gate counts as one of them until the end
abbrev pub left_of : Plan → ℕ
left_of plan = plan.length - (plan.next - 1)

-- a file with the configuration's snapshot alone, of which nothing is written
abbrev pub begun : Config → Plan
begun config = record { length = 21 + length (snapshot config); next = 0 }

abbrev pub with_plan : Journal → Plan → Journal
with_plan journal plan = record journal { plan = Some plan }

-- the file that was built decides
abbrev pub switched : Journal → Plan → Journal
switched journal plan = record {
  side = opposite journal.side;
  generation = journal.generation + 1;
  length = plan.length;
  plan = None;
}

-- A piece: the first closes the file's gate, each later one writes up to 65,536 octets, and where its
-- closed gate and the file's gate alone are left the last one writes these.
abbrev pub after_piece : Journal → Plan → Journal
after_piece journal plan =
    if plan.next == 0 then with_plan journal (record plan { next = 1 })
    else if left_of plan == 2 then switched journal plan
    else with_plan journal (record plan { next = plan.next + min 65536 (left_of plan - 2) })

-- so many pieces, or fewer where the compaction is done
abbrev pub after_pieces : (pieces : ℕ) → Journal → Option Plan → Journal
after_pieces zero journal plan = journal
after_pieces (suc pieces) journal None = journal
after_pieces (suc pieces) journal (Some plan) =
    after_pieces pieces (after_piece journal plan) (after_piece journal plan).plan

-- what is told of a journal after pieces
abbrev pub told_of : Journal → Option Plan → Compacted
told_of journal None = Done journal.generation
told_of journal (Some plan) = Left (left_of plan)

-- the journal after pieces of the compaction that is in progress, or of one that begins with them
abbrev pub compacted : Config → (pieces : ℕ) → Journal → Option Plan → Journal
compacted config pieces journal None =
    after_pieces pieces (with_plan journal (begun config)) (Some (begun config))
compacted config pieces journal (Some plan) = after_pieces pieces journal (Some plan)

-- there is no generation behind the last, for a compaction that would begin
abbrev pub IsLastGeneration : Journal → Type 0
IsLastGeneration journal = (journal.plan ≡ None) × (journal.generation + 1 ≡ 2 ^ 64)

-- Pieces of a compaction change the journal alone. Want of memory and a fault of a disk are no steps.
abbrev pub CompactionSteps : (old : Engine) → (pieces : ℕ) → Compacted → (new : Engine) → Type 0
CompactionSteps old pieces outcome new =
    (IsLastGeneration old.journal × (outcome ≡ GenerationsEnded) × (new ≡ old))
    ⊎ ((IsLastGeneration old.journal → ⊥)
    × (new ≡ record old { journal = compacted old.config pieces old.journal old.journal.plan })
    × (outcome ≡ told_of new.journal new.journal.plan))
