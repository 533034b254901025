-- What a run of each form leaves, by its status.
use Rattle.std.specs.Prelude.{◌≡◌, ◌⊎◌, ℕ, List, Option, Some, ⊤}
use Rattle.config_model.specs.Configs.{Config, empty}
use Rattle.dump_run.specs.Dumping.{DumpLeaves, IsTold as DumpIsTold, IsUnwritten}
use Rattle.dump_run.specs.declared.answers.Dumped.{Dumped}
use Rattle.dump_run.specs.declared.answers.Dumped.TheVariants as dumped
use Rattle.drill_run.specs.Leaving.{DrillLeaves, HasCause as DrillHasCause, IfUnwritten}
use Rattle.drill_run.specs.declared.answers.Drilled.{Drilled}
use Rattle.drill_run.specs.declared.answers.Drilled.TheVariants as drilled
use Rattle.octets.specs.Counts.{Rose}
use Rattle.r53_cli.specs.Run.{HasCause, IsRefused, Ran as OnceLeaves}
use Rattle.r53_cli.specs.declared.form.Form.{Form}
use Rattle.r53_cli.specs.declared.form.Form.TheVariants as form
use Rattle.r53_cli.specs.declared.status.Status.{Status}
use Rattle.r53_cli.specs.declared.status.Status.TheVariants as status
use Rattle.r53_io.specs.Network.{Incoming}
use Rattle.rand_core.specs.Stream.{Stream}
use Rattle.session_run.specs.Serving.{Datagram}
use Rattle.session_run.specs.Ended.{Ended}
use Rattle.session_run.specs.Ended.TheVariants as ended
use Rattle.session_run.specs.Files.{FilesOpen}
use Rattle.session_run.specs.Running.{FilesSay, Given, HasCauseOf, IfUntabled, IsTold, RunLeaves, SessionKeeps}
use Rattle.session_run.specs.Running.{TablesSay, UnlessEnded}
use Rattle.session_run.specs.declared.ran.Ran.{Ran}
use Rattle.session_run.specs.declared.ran.Ran.TheVariants as ran
use Rattle.dump_run.specs.Opening.{OpensConfig}
use Rattle.zone_journal.specs.Making.{InitGives, InitLeaves}
use Rattle.zone_journal.specs.Pairs.{Unwritten}
use Rattle.zone_journal.specs.declared.answers.Init.{Init}
use Rattle.zone_journal.specs.declared.answers.Init.TheVariants as init

-- What all but the disks that a run asks tells: what the input and the tables have left, what the output
-- holds, the ports that the network gives, what is to come from it and what was sent, and the random
-- words.
pub record Devices : Type 0 where
  pub left : Option (List ℕ)
  pub rows : Option (List ℕ)
  pub held : Option (List ℕ)
  pub ports : Option (ℕ → ℕ → ℕ × ℕ)
  pub coming : Option (List Incoming)
  pub sent : Option (List Datagram)
  pub words : Stream

-- how often each has failed
pub record Counts : Type 0 where
  pub input : ℕ
  pub tables : ℕ
  pub out : ℕ
  pub a : ℕ
  pub b : ℕ
  pub link : ℕ

-- ---- making a store

-- the status of a making
abbrev pub of_init : Init → Status
of_init init.Done = status.Done
of_init (init.AlreadyAStore side) = status.AlreadyAStore side
of_init init.DiskFault = status.DiskFault

-- A store with nothing in it was made of the files x and y, where neither was open; or why not. Where
-- it was, each pair of images opens to the configuration with nothing in it.
pub record Inits {D : Type 0} (reading : D → Option (List ℕ)) (images : D → List ℕ → Type 0)
    (moment : D → ℕ) (images_since : D → ℕ → List ℕ → Type 0) (answer : Init) (x y : List ℕ)
    (a_old a_new b_old b_new : D) : Type 0 where
  pub gives : InitGives reading images answer x y a_new b_new
  pub any_moment : InitLeaves reading images moment images_since answer x y a_old a_new b_old b_new
  pub empty_opens : answer ≡ init.Done → FilesOpen images a_new b_new empty

-- The making of a store: its status, the cause of a fault, and what it leaves of files that are told.
-- Of `b` nothing is written.
pub record InitRuns {D : Type 0} (reading : D → Option (List ℕ)) (images : D → List ℕ → Type 0)
    (moment : D → ℕ) (images_since : D → ℕ → List ℕ → Type 0) (result : Status)
    (a_old a_new b_old b_new : D) (a_were a_are b_were b_are : ℕ) : Type 0 where
  pub answer : Init
  pub status_is : result ≡ of_init answer
  pub failed : answer ≡ init.DiskFault → Rose a_were a_are ⊎ Rose b_were b_are
  pub leaves : (x y : List ℕ) → reading a_old ≡ Some x → reading b_old ≡ Some y
      → Inits reading images moment images_since answer x y a_old a_new b_old b_new
  pub b_unwritten : (y : List ℕ) → reading b_old ≡ Some y
      → Unwritten reading images moment images_since b_old b_new

-- ---- a session

-- the status of lines that ended, and of a session
abbrev pub of_ended : Ended → Status
of_ended ended.Done = status.Done
of_ended ended.ReadFault = status.ReadFault
of_ended ended.InputTooLong = status.InputTooLong
of_ended ended.WriteFault = status.WriteFault
of_ended ended.DiskFault = status.DiskFault
of_ended ended.LinkFault = status.LinkFault

abbrev pub of_ran : Ran → Status
of_ran (ran.BadTables line) = status.BadTables line
of_ran ran.TablesFault = status.ReadFault
of_ran ran.TablesTooLong = status.InputTooLong
of_ran (ran.NotAStore side place) = status.NotAStore side place
of_ran ran.OpeningFault = status.DiskFault
of_ran ran.OutOfMemory = status.OutOfMemory
of_ran (ran.Ended how) = of_ended how

-- A session was run. Where it ended before its lines it asked the tables and the disks alone, and where
-- the tables ended it them alone, and the files are as they were; each fault has its cause. What the files
-- open to is told where all tells what it has; where the two disks alone do, that commands which break no
-- rule made it.
pub record Runs {D : Type 0} (reading : D → Option (List ℕ)) (images : D → List ℕ → Type 0)
    (moment : D → ℕ) (images_since : D → ℕ → List ℕ → Type 0) (result : Status)
    (a_old a_new b_old b_new : D) (before after : Devices) (were are : Counts) : Type 0 where
  pub answer : Ran
  pub status_is : result ≡ of_ran answer
  pub unasked : UnlessEnded answer ((after ≡ record before { rows = after.rows })
      × (are ≡ record were { tables = are.tables; a = are.a; b = are.b }))
  pub unopened : IfUntabled answer ((a_new ≡ a_old) × (b_new ≡ b_old))
  pub leaves : (given : Given) → IsTold given before.left before.rows (reading a_old)
      (reading b_old) before.held before.ports before.coming before.sent before.words
      → RunLeaves answer images a_new b_new given after.left after.coming after.words after.held
      after.sent
  pub tables_say : (rows : List ℕ) → before.rows ≡ Some rows → TablesSay answer rows
  pub files_say : (x y : List ℕ) → reading a_old ≡ Some x → reading b_old ≡ Some y
      → FilesSay answer x y
  pub files_keep : (x y : List ℕ) → reading a_old ≡ Some x → reading b_old ≡ Some y
      → SessionKeeps answer images a_new b_new x y
  pub a_unwritten : UnlessEnded answer ((x : List ℕ) → reading a_old ≡ Some x
      → Unwritten reading images moment images_since a_old a_new)
  pub b_unwritten : UnlessEnded answer ((y : List ℕ) → reading b_old ≡ Some y
      → Unwritten reading images moment images_since b_old b_new)
  pub cause : HasCauseOf answer were.input are.input were.tables are.tables were.a are.a were.b
      are.b were.link are.link were.out are.out

-- ---- a dump

-- the status of a dump
abbrev pub of_dumped : Dumped → Status
of_dumped dumped.Written = status.Done
of_dumped (dumped.NotAStore side place) = status.NotAStore side place
of_dumped dumped.OpeningFault = status.DiskFault
of_dumped dumped.OutOfMemory = status.OutOfMemory
of_dumped dumped.WriteFault = status.WriteFault

-- What the two files open to was written, line by line, and nothing was written to them; each fault has
-- its cause.
pub record Dumps {D : Type 0} (reading : D → Option (List ℕ)) (images : D → List ℕ → Type 0)
    (moment : D → ℕ) (images_since : D → ℕ → List ℕ → Type 0) (result : Status)
    (a_old a_new b_old b_new : D) (before after : Option (List ℕ))
    (out_were out_are a_were a_are b_were b_are : ℕ) : Type 0 where
  pub answer : Dumped
  pub status_is : result ≡ of_dumped answer
  pub told : (x y : List ℕ) → reading a_old ≡ Some x → reading b_old ≡ Some y
      → DumpIsTold answer x y
  pub writes : (x y held : List ℕ) (config : Config) → reading a_old ≡ Some x
      → reading b_old ≡ Some y → before ≡ Some held → OpensConfig x y config
      → DumpLeaves answer held after config
  pub unwritten : IsUnwritten answer (after ≡ before)
  pub a_unwritten : (x : List ℕ) → reading a_old ≡ Some x
      → Unwritten reading images moment images_since a_old a_new
  pub b_unwritten : (y : List ℕ) → reading b_old ≡ Some y
      → Unwritten reading images moment images_since b_old b_new
  pub disk_failed : answer ≡ dumped.OpeningFault → Rose a_were a_are ⊎ Rose b_were b_are
  pub sink_failed : answer ≡ dumped.WriteFault → Rose out_were out_are

-- ---- a drill

-- the status of a drill
abbrev pub of_drilled : Drilled → Status
of_drilled drilled.Written = status.Done
of_drilled (drilled.AlreadyAStore side) = status.AlreadyAStore side
of_drilled drilled.MakingFault = status.DiskFault
of_drilled (drilled.NotAStore side place) = status.NotAStore side place
of_drilled drilled.OpeningFault = status.DiskFault
of_drilled drilled.OutOfMemory = status.OutOfMemory
of_drilled drilled.DiskFault = status.DiskFault
of_drilled drilled.WriteFault = status.WriteFault

-- A store was made and a drill over so many events run over it, or why not; each fault has its cause.
pub record Drills {D : Type 0} (reading : D → Option (List ℕ)) (images : D → List ℕ → Type 0)
    (moment : D → ℕ) (images_since : D → ℕ → List ℕ → Type 0) (events : ℕ) (result : Status)
    (a_old a_new b_old b_new : D) (before after : Option (List ℕ))
    (out_were out_are a_were a_are b_were b_are : ℕ) : Type 0 where
  pub answer : Drilled
  pub status_is : result ≡ of_drilled answer
  pub leaves : (x y : List ℕ) → reading a_old ≡ Some x → reading b_old ≡ Some y
      → DrillLeaves answer reading images moment images_since a_old a_new b_old b_new events x y
      before after
  pub unwritten : IfUnwritten answer (after ≡ before)
  pub cause : DrillHasCause answer a_were a_are b_were b_are out_were out_are

-- ---- forms

abbrev pub IsOnceForm : Form → Type 0
IsOnceForm (form.Once once) = ⊤
IsOnceForm form.Init = ⊥
IsOnceForm form.Run = ⊥
IsOnceForm form.Dump = ⊥
IsOnceForm (form.Drill events) = ⊥

-- The run says that the words are of no form, or finds no memory to read an address among them, and
-- asks nothing.
abbrev pub Refuses : {D : Type 0} → (words : List (List ℕ)) → (result : Status)
    → (a_old a_new b_old b_new : D) → (before after : Devices) → (were are : Counts) → Type 0
Refuses words result a_old a_new b_old b_new before after were are =
    IsRefused words result × (a_new ≡ a_old) × (b_new ≡ b_old) × (after ≡ before) × (are ≡ were)

-- what a run of this form leaves
abbrev pub FormLeaves : {D : Type 0} → (reading : D → Option (List ℕ))
    → (images : D → List ℕ → Type 0) → (moment : D → ℕ)
    → (images_since : D → ℕ → List ℕ → Type 0) → Form → (result : Status)
    → (a_old a_new b_old b_new : D) → (before after : Devices) → (were are : Counts) → Type 0
-- Of all that a run asks `once` asks the input and the output alone.
FormLeaves reading images moment images_since (form.Once once) result a_old a_new b_old b_new before
    after were are =
    OnceLeaves result once (record { left = before.left; held = before.held })
    (record { left = after.left; held = after.held })
    × HasCause result were.input are.input were.out are.out
    × (a_new ≡ a_old) × (b_new ≡ b_old)
    × (after ≡ record before { left = after.left; held = after.held })
    × (are ≡ record were { input = are.input; out = are.out })
-- `init` asks the disks alone.
FormLeaves reading images moment images_since form.Init result a_old a_new b_old b_new before after
    were are =
    InitRuns reading images moment images_since result a_old a_new b_old b_new were.a are.a were.b are.b
    × (after ≡ before) × (are ≡ record were { a = are.a; b = are.b })
FormLeaves reading images moment images_since form.Run result a_old a_new b_old b_new before after
    were are =
    Runs reading images moment images_since result a_old a_new b_old b_new before after were are
-- `dump` asks the output and the disks alone.
FormLeaves reading images moment images_since form.Dump result a_old a_new b_old b_new before after
    were are =
    Dumps reading images moment images_since result a_old a_new b_old b_new before.held after.held
    were.out are.out were.a are.a were.b are.b
    × (after ≡ record before { held = after.held })
    × (are ≡ record were { out = are.out; a = are.a; b = are.b })
-- So does `drill`.
FormLeaves reading images moment images_since (form.Drill events) result a_old a_new b_old b_new
    before after were are =
    Drills reading images moment images_since events result a_old a_new b_old b_new before.held
    after.held were.out are.out were.a are.a were.b are.b
    × (after ≡ record before { held = after.held })
    × (are ≡ record were { out = are.out; a = are.a; b = are.b })
