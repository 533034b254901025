-- The store of a server, and what a command, a report and a query make of it.
use Rattle.std.specs.Prelude.{◌≡◌, ◌≢◌, ◌⊎◌, ◌&&◌, ℕ, ◌+◌, ◌<◌, ◌≤◌, Bool, List, ◌∷◌, length, option_map}
use Rattle.std.specs.Prelude.{Option, Some, Result, Ok, Err}
use Rattle.std.specs.List.{list_any}
use Rattle.std.specs.Ordering.{is_eq}
use Rattle.answer_model.specs.Reply.{Answers, Asker, Served}
use Rattle.check_model.specs.Checks.{check_with}
use Rattle.check_model.specs.declared.checks.Check.TheVariants.{Endpoint}
use Rattle.command_octets.specs.Octets.{command_octets}
use Rattle.command_octets.specs.declared.commands.Command.{Command}
use Rattle.config_model.specs.Applying.{Decides}
use Rattle.config_model.specs.Configs.{Config}
use Rattle.config_model.specs.declared.refusals.Made.{Made}
use Rattle.config_model.specs.declared.refusals.Refusal.{Refusal}
use Rattle.config_model.specs.declared.refusals.Refusal.TheVariants.{JournalFull, OutOfMemory}
use Rattle.engine_model.specs.declared.answers.Reported.{Reported}
use Rattle.engine_model.specs.declared.answers.Reported.TheVariants as reported
use Rattle.gate_journal.specs.Layout.{most}
use Rattle.geo_latency.specs.declared.tables.Tables.{Tables}
use Rattle.health_model.specs.Healthy.{Watched, healthy, sets_of}
use Rattle.health_model.specs.Statuses.{Report}
use Rattle.record_set.specs.Sets.{key_of}
use Rattle.record_set.specs.declared.sets.RecordSet.{RecordSet}
use Rattle.record_set.specs.declared.sets.SetKey.{SetKey}
use Rattle.std.specs.Prelude.{map}
use Rattle.zone_journal.specs.declared.answers.Side.{Side}
use Rattle.zone_model.specs.Hosted.{HostedZone}
use Rattle.zone_model.specs.Keys.{key_cmp}

-- A compaction: the length that its file will have, and the octet of it that is written next; 0
-- where its first piece, which closes the file's gate, is still to come.
pub record Plan : Type 0 where
  pub length : ℕ
  pub next : ℕ

-- The file that decides: its side, its generation, and its length up to its closed gate and with it;
-- and the compaction that is in progress.
pub record Journal : Type 0 where
  pub side : Side
  pub generation : ℕ
  pub length : ℕ
  pub plan : Option Plan

-- A configuration, all reports since the opening, the newest first, and the journal. Reports of a
-- check that was deleted stay, and tell nothing: its number isn't given again.
pub record Engine : Type 0 where
  pub config : Config
  pub reports : List Report
  pub journal : Journal

-- ---- commands

-- how many octets an entry of a command has, behind its gate and its length
abbrev pub size_of : Command → ℕ
size_of given = length (command_octets given)

-- with an entry of so many octets more
abbrev pub longer : (n : ℕ) → Plan → Plan
longer n plan = record plan { length = plan.length + (5 + n) }

abbrev pub grown : (n : ℕ) → Journal → Journal
grown n journal = record journal {
  length = journal.length + (5 + n);
  plan = option_map (longer n) journal.plan;
}

-- An entry of so many octets fits into the file that decides, and into the one that is built.
pub record Fits (n : ℕ) (journal : Journal) : Type 0 where
  pub active : journal.length + (5 + n) ≤ most
  pub planned : (plan : Plan) → journal.plan ≡ Some plan → plan.length + (5 + n) ≤ most

-- It doesn't fit into a file of this length: the one that decides, or else the one that is built.
abbrev pub IsFull : (n : ℕ) → Journal → (full : ℕ) → Type 0
IsFull n journal full =
    ((full ≡ journal.length) × (most < journal.length + (5 + n)))
    ⊎ ((journal.length + (5 + n) ≤ most) × ((plan : Plan) × (journal.plan ≡ Some plan)
    × (full ≡ plan.length) × (most < plan.length + (5 + n))))

-- A command is refused by the rules, which is never for want of memory; or where it would be accepted
-- for want of room in a file; or it is made.
abbrev pub CommandSteps : (old : Engine) → Command → Result Made Refusal → (new : Engine) → Type 0
CommandSteps old given outcome new =
    ((why : Refusal) × (why ≢ OutOfMemory) × Decides old.config given (Err why)
    × (outcome ≡ Err why) × (new ≡ old))
    ⊎ ((after : Config) × ((what : Made) × Decides old.config given (Ok (after, what))
    × (((full : ℕ) × IsFull (size_of given) old.journal full × (outcome ≡ Err (JournalFull full))
    × (new ≡ old))
    ⊎ (Fits (size_of given) old.journal × (outcome ≡ Ok what) × (new ≡ record old {
      config = after;
      journal = grown (size_of given) old.journal;
    })))))

-- ---- reports

-- a check of an endpoint has the number
abbrev pub IsEndpoint : Config → (id : ℕ) → Type 0
IsEndpoint config id = (threshold : ℕ) × ((inverted disabled : Bool)
    × (check_with config.checks.list id ≡ Some (Endpoint threshold inverted disabled)))

-- A report counts where a check of an endpoint has the number, and one of fifty checkers made it.
abbrev pub ReportSteps : (old : Engine) → (id checker : ℕ) (pass : Bool) → Reported
    → (new : Engine) → Type 0
ReportSteps old id checker pass reported.Taken new =
    IsEndpoint old.config id × (checker < 50) × (new ≡ record old {
      reports = record { check = id; checker = checker; pass = pass } ∷ old.reports;
    })
ReportSteps old id checker pass reported.NoSuchHealthCheck new =
    (IsEndpoint old.config id → ⊥) × (new ≡ old)
ReportSteps old id checker pass reported.BadChecker new =
    IsEndpoint old.config id × (50 ≤ checker) × (new ≡ old)

-- ---- queries

-- the zones and the checks of a configuration, as what has health
abbrev pub watched_in : Config → Watched
watched_in config = record {
  zones = map (λ (zone : HostedZone). (zone.id, zone.sets)) config.zones;
  checks = config.checks.list;
}

-- the set of a zone with this key is healthy, by all reports
abbrev pub is_healthy : Config → List Report → (zone : ℕ) → SetKey → Bool
is_healthy config reports zone key = list_any (λ (set : RecordSet).
    is_eq (key_cmp (key_of set) key) && healthy (watched_in config) reports zone set)
    (sets_of (watched_in config) zone)

-- what queries are answered from
abbrev pub served_in : Engine → Tables → Served
served_in engine tables = record {
  zones = engine.config.zones;
  collections = engine.config.collections.list;
  healthy = is_healthy engine.config engine.reports;
  tables = tables;
}

-- A query changes nothing, and is answered from the configuration, the reports and the tables.
abbrev pub QueryGives : Engine → Tables → Asker → (packet : List ℕ) → (answer : Option (List ℕ))
    → Type 0
QueryGives engine tables asker packet answer = Answers (served_in engine tables) asker packet answer
