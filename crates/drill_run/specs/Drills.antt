-- A drill: a store is set up, and then so many events run over it (FORMATS, Drill).
use Rattle.std.specs.Prelude.{◌≡◌, ◌≢◌, ◌⊎◌, ℕ, zero, suc, ◌%◌, List, [], ◌++◌, codes, length}
use Rattle.std.specs.Fmt.{decimal}
use Rattle.std.specs.List.{filter}
use Rattle.drill_run.specs.Counting.{Progress, MayDo, uncounted}
use Rattle.drill_run.specs.declared.counting.Tally.{Tally}
use Rattle.engine_model.specs.Engine.{Engine, is_healthy, watched_in}
use Rattle.geo_latency.specs.declared.tables.Tables.{Tables}
use Rattle.health_model.specs.Healthy.{sets_of}
use Rattle.r53_gen.specs.Lines.{compaction, event_line, setup, setup_count}
use Rattle.record_set.specs.Sets.{key_of}
use Rattle.record_set.specs.declared.sets.RecordSet.{RecordSet}

-- tables without rows
abbrev pub no_tables : Tables
no_tables = record { places = []; latencies = [] }

-- The first n lines of the setup.
unfoldable pub SetsUp : (n : ℕ) → (start new : Progress) → Type 0
SetsUp zero start new = new ≡ start
SetsUp (suc n) start new =
    (middle : Progress) × SetsUp n start middle × MayDo no_tables (setup n) middle new

-- What stands behind an event, where something does.
abbrev pub CompactsBehind : (k : ℕ) → (old new : Progress) → Type 0
CompactsBehind k old new =
    ((k % 10000 ≡ 9999) × MayDo no_tables compaction old new)
    ⊎ ((k % 10000 ≢ 9999) × (new ≡ old))

-- The first n events, from 0 on.
unfoldable pub EventLinesRun : (n : ℕ) → (start new : Progress) → Type 0
EventLinesRun zero start new = new ≡ start
EventLinesRun (suc n) start new =
    (middle : Progress) × (behind : Progress) × EventLinesRun n start middle
    × MayDo no_tables (event_line n) middle behind × CompactsBehind n behind new

-- A drill over n events, from a store to where it ends. The setup isn't counted.
pub record LinesRun (n : ℕ) (start : Engine) (end : Progress) : Type 0 where
  pub made : Progress
  pub sets_up : SetsUp setup_count (uncounted start) made
  pub runs : EventLinesRun n (uncounted made.engine) end

-- ---- the summary

-- how many sets of the first zone are healthy, by all reports
abbrev pub healthy_in : Engine → ℕ
healthy_in engine =
    length (filter (λ (set : RecordSet). is_healthy engine.config engine.reports 1 (key_of set))
    (sets_of (watched_in engine.config) 1))

-- the line of a drill over n events that came to this, with so many healthy sets at its end
abbrev pub summary_of : (n healthy : ℕ) → Tally → List ℕ
summary_of n healthy tally =
    codes "{\"Batches\":" ++ (decimal tally.batches
    ++ (codes ",\"Drill\":" ++ (decimal n
    ++ (codes ",\"Healthy\":" ++ (decimal healthy
    ++ (codes ",\"NxDomain\":" ++ (decimal tally.missing
    ++ (codes ",\"Ok\":\"drill\",\"Records\":" ++ (decimal tally.records
    ++ (codes ",\"ReplyBytes\":" ++ (decimal tally.octets
    ++ (codes ",\"Reports\":" ++ (decimal tally.reports ++ codes "}\n")))))))))))))

-- what is written of one that ends there
abbrev pub summary : (n : ℕ) → (end : Progress) → List ℕ
summary n end = summary_of n (healthy_in end.engine) end.tally
