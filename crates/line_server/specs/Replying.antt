-- What lines that concern the store alone make of it, and what is replied: for each the steps of the
-- definitions, from a store to the one after and the reply line.
use Rattle.std.specs.Prelude.{◌≡◌, ℕ, List, Option, Result}
use Rattle.check_lines.specs.declared.observing.Observation.{Observation}
use Rattle.reply_sending.specs.CommandRecord.{Command}
use Rattle.reply_sending.specs.MadeRecord.{Made}
use Rattle.reply_sending.specs.RefusalRecord.{Refusal}
use Rattle.serve_turns.specs.Compacting.{CompactionSteps}
use Rattle.serve_turns.specs.Engine.{CommandSteps, Engine, QueryGives, ReportSteps}
use Rattle.serve_turns.specs.CompactedRecord.{Compacted}
use Rattle.serve_turns.specs.ReportedRecord.{Reported}
use Rattle.geo_latency.specs.declared.tables.Tables.{Tables}
use Rattle.health_model.specs.Statuses.{status_told}
use Rattle.query_lines.specs.declared.queries.QueryLine.{QueryLine}
use Rattle.reply_sending.specs.Outcomes.{text_of}
use Rattle.serve_turns.specs.Replies.{command_outcome, compact_outcome, query_text}
use Rattle.serve_turns.specs.Replies.{report_outcome, status_outcome}

abbrev pub Commanded : Command → (old after : Engine) → (reply : List ℕ) → Type 0
Commanded given old after reply =
    (came : Result Made Refusal) × CommandSteps old given came after
    × (reply ≡ text_of (command_outcome given came))

abbrev pub Observed : Observation → (old after : Engine) → (reply : List ℕ) → Type 0
Observed seen old after reply =
    (came : Reported) × ReportSteps old seen.id seen.checker seen.pass came after
    × (reply ≡ text_of (report_outcome seen.id came))

abbrev pub Compacts : (pieces : ℕ) → (old after : Engine) → (reply : List ℕ) → Type 0
Compacts pieces old after reply =
    (came : Compacted) × CompactionSteps old pieces came after
    × (reply ≡ text_of (compact_outcome came))

abbrev pub StatusTold : (id : ℕ) → (old after : Engine) → (reply : List ℕ) → Type 0
StatusTold id old after reply =
    (after ≡ old)
    × (reply ≡ text_of (status_outcome id (status_told old.config.checks.list old.reports id)))

abbrev pub Answered : Tables → QueryLine → (old after : Engine) → (reply : List ℕ) → Type 0
Answered tables asked old after reply =
    (answer : Option (List ℕ))
    × QueryGives old tables (record { peer = asked.address; words = asked.words }) asked.packet
    answer
    × (after ≡ old) × (reply ≡ query_text answer)
