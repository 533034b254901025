-- What lines of a drill come to, and what is counted of them. No reply is written, so that nothing tells
-- for which lines memory was wanted: such a line changes nothing, and counts for nothing.
use Rattle.std.specs.Prelude.{◌≡◌, ◌⊎◌, ℕ, ◌+◌, ◌*◌, ◌%◌, ◌==◌, ◌≤◌, List, length, if◌then◌else◌, slice_index}
use Rattle.std.specs.Prelude.{Option, None, Some, Result, Ok, Err}
use Rattle.batch_json.specs.declared.asking.Line.{Line}
use Rattle.batch_json.specs.declared.asking.Line.TheVariants as line
use Rattle.command_octets.specs.declared.commands.Command.{Command}
use Rattle.command_octets.specs.declared.commands.Command.TheVariants as command
use Rattle.config_model.specs.declared.refusals.Made.{Made}
use Rattle.config_model.specs.declared.refusals.Refusal.{Refusal}
use Rattle.dns_message.specs.Header.{ancount_of}
use Rattle.drill_run.specs.declared.counting.Tally.{Tally}
use Rattle.engine_model.specs.Compacting.{CompactionSteps}
use Rattle.engine_model.specs.Engine.{CommandSteps, Engine, QueryGives, ReportSteps}
use Rattle.engine_model.specs.declared.answers.Compacted.{Compacted}
use Rattle.engine_model.specs.declared.answers.Reported.{Reported}
use Rattle.engine_model.specs.declared.answers.Reported.TheVariants as reported
use Rattle.geo_latency.specs.declared.tables.Tables.{Tables}
use Rattle.line_faults.specs.declared.fault.LineFault.{LineFault}
use Rattle.r53_core.specs.Stores.{State as Store, StandsFor}
use Rattle.session_model.specs.Asking.{Asks}
use Rattle.session_server.specs.Taking.{AsksDisk}

-- ---- counts

abbrev pub no_counts : Tally
no_counts = record { batches = 0; missing = 0; records = 0; octets = 0; reports = 0 }

-- a batch counts
abbrev pub batches_of : Command → ℕ
batches_of (command.CreateZone name servers) = 0
batches_of (command.DeleteZone id) = 0
batches_of (command.Change batch) = 1
batches_of (command.Health given) = 0
batches_of (command.Cidr given) = 0

-- where it was made
abbrev pub command_counted : Command → Result Made Refusal → Tally → Tally
command_counted given (Ok what) old = record old { batches = old.batches + batches_of given }
command_counted given (Err why) old = old

-- a report that was taken is one more
abbrev pub report_counted : Reported → Tally → Tally
report_counted reported.Taken old = record old { reports = old.reports + 1 }
report_counted reported.NoSuchHealthCheck old = old
report_counted reported.BadChecker old = old

-- RCODE of a reply is 3, that of a name that doesn't exist (RFC 1035, 4.1.1)
abbrev pub missing_in : (octets : List ℕ) → ℕ
missing_in octets = if slice_index octets 3 % 16 == 3 then 1 else 0

-- a reply with its octets, the records of its answer section, and its RCODE
abbrev pub reply_counted : (answer : Option (List ℕ)) → Tally → Tally
reply_counted None old = old
reply_counted (Some reply) old = record old {
  missing = old.missing + missing_in reply;
  records = old.records + ancount_of reply;
  octets = old.octets + length reply;
}

-- No more was counted than so many lines come to.
pub record IsBelow (n : ℕ) (tally : Tally) : Type 0 where
  pub batches : tally.batches ≤ n
  pub missing : tally.missing ≤ n
  pub records : tally.records ≤ 65536 * n
  pub octets : tally.octets ≤ 65536 * n
  pub reports : tally.reports ≤ n

-- ---- lines

-- Where a drill stands: its store, and what was counted so far.
pub record Progress : Type 0 where
  pub engine : Engine
  pub tally : Tally

abbrev pub uncounted : Engine → Progress
uncounted engine = record { engine = engine; tally = no_counts }

-- A store and a tally are there.
pub record HasProgress (at : Progress) (store : Store) (tally : Tally) : Type 0 where
  pub stands : StandsFor at.engine store
  pub counted : at.tally ≡ tally

-- What a line asks for comes to, as in a session. There is no network: nothing is to come from it, so
-- that a Serve takes no turn.
abbrev pub Does : Tables → Line → (old new : Progress) → Type 0
Does tables (line.Control given) old new =
    (came : Result Made Refusal) × CommandSteps old.engine given came new.engine
    × (new.tally ≡ command_counted given came old.tally)
Does tables (line.List asked) old new = new ≡ old
Does tables (line.Status id) old new = new ≡ old
Does tables (line.Observe seen) old new =
    (came : Reported) × ReportSteps old.engine seen.id seen.checker seen.pass came new.engine
    × (new.tally ≡ report_counted came old.tally)
Does tables (line.Query asked) old new =
    (answer : Option (List ℕ))
    × QueryGives old.engine tables (record { peer = asked.address; words = asked.words })
    asked.packet answer
    × (new ≡ record old { tally = reply_counted answer old.tally })
Does tables (line.Bind ports) old new = new ≡ old
Does tables (line.Serve turns) old new = new ≡ old
Does tables (line.Compact pieces) old new =
    (came : Compacted) × CompactionSteps old.engine pieces came new.engine
    × (new.tally ≡ old.tally)

-- what was read of a line; its fault changes nothing
abbrev pub ToldDoes : Tables → Result Line LineFault → (old new : Progress) → Type 0
ToldDoes tables (Ok asked) old new = Does tables asked old new
ToldDoes tables (Err fault) old new = new ≡ old

-- a line of octets
abbrev pub OctetsDo : Tables → (octets : List ℕ) → (old new : Progress) → Type 0
OctetsDo tables octets old new =
    (told : Result Line LineFault) × Asks octets told × ToldDoes tables told old new

-- A step with which a disk may fail: its line asks one.
abbrev pub Halts : Tables → Line → (old new : Progress) → Type 0
Halts tables asked old new = AsksDisk asked old.engine × Does tables asked old new

-- the same of a line of octets
abbrev pub OctetsHalt : Tables → (octets : List ℕ) → (old new : Progress) → Type 0
OctetsHalt tables octets old new =
    (asked : Line) × Asks octets (Ok asked) × Halts tables asked old new

-- The step is made, or memory was wanted for it.
abbrev pub OrMemory : (Steps : Progress → Progress → Type 0) → (old new : Progress) → Type 0
OrMemory Steps old new = (new ≡ old) ⊎ Steps old new

abbrev pub MayDo : Tables → (octets : List ℕ) → (old new : Progress) → Type 0
MayDo tables octets = OrMemory (OctetsDo tables octets)
