-- What a drill leaves, by its answer.
use Rattle.std.specs.Prelude.{◌≡◌, ◌⊎◌, ◌<◌, ◌%◌, ℕ, List, [], Option, None, Some, ⊤}
use Rattle.config_model.specs.Configs.{Config, empty}
use Rattle.drill_run.specs.Counting.{OctetsHalt, Progress, MayDo, uncounted}
use Rattle.drill_run.specs.Drills.{LinesRun, EventLinesRun, SetsUp, no_tables, summary}
use Rattle.drill_run.specs.declared.answers.Drilled.{Drilled}
use Rattle.drill_run.specs.declared.answers.Drilled.TheVariants as drilled
use Rattle.drill_run.specs.declared.taking.Went.{Went}
use Rattle.drill_run.specs.declared.taking.Went.TheVariants as went
use Rattle.engine_model.specs.Engine.{Engine}
use Rattle.gate_journal.specs.Layout.{IsOpen}
use Rattle.octets.specs.Counts.{Rose}
use Rattle.r53_gen.specs.Lines.{compaction, event_line, setup, setup_count}
use Rattle.session_server.specs.Files.{AreFilesOf, FilesOpen}
use Rattle.store_model.specs.Leaving.{OpensEither}
use Rattle.store_model.specs.Opening.{IsShape}
use Rattle.whole_writing.specs.Output.{OutputOf}
use Rattle.whole_writing.specs.declared.output.Output.{Output}
use Rattle.whole_writing.specs.declared.output.Output.TheVariants as output
use Rattle.zone_journal.specs.Making.{InitGives, InitLeaves, store_over}
use Rattle.zone_journal.specs.Pairs.{Unwritten}
use Rattle.zone_journal.specs.declared.answers.Init.TheVariants as init
use Rattle.zone_journal.specs.declared.answers.OpenFault.{OpenFault}
use Rattle.zone_journal.specs.declared.answers.OpenFault.TheVariants as fault

-- ---- files

-- Each pair of images opens to one of two.
abbrev pub FilesOpenEither : {D : Type 0} → (images : D → List ℕ → Type 0) → (a b : D)
    → (before after : Config) → Type 0
FilesOpenEither images a b before after =
    (x y : List ℕ) → images a x → images b y → OpensEither before after x y

-- A store with nothing in it was just opened of the files x and y.
pub record IsStart (x y : List ℕ) (start : Engine) : Type 0 where
  pub config : start.config ≡ empty
  pub shape : IsShape x y start.journal.side start.journal.generation start.journal.length
  pub plan : start.journal.plan ≡ None
  pub reports : start.reports ≡ []

-- ---- a line

-- P, where the lines went on, and where a disk failed
abbrev pub IfOn : Went → Type 0 → Type 0
IfOn went.On P = P
IfOn went.Halted P = ⊤

abbrev pub IfHalted : Went → Type 0 → Type 0
IfHalted went.On P = ⊤
IfHalted went.Halted P = P

-- A step was in hand where a disk failed: each pair of images opens to the configuration before it or
-- to the one after.
abbrev pub IsHalf : {D : Type 0} → (images : D → List ℕ → Type 0) → (a b : D)
    → (Steps : Progress → Progress → Type 0) → (old : Progress) → Type 0
IsHalf images a b Steps old =
    (new : Progress) × Steps old new
    × FilesOpenEither images a b old.engine.config new.engine.config

-- A disk failed with a line of the setup in hand, behind those before it.
pub record IsHaltedIn {D : Type 0} (images : D → List ℕ → Type 0) (a b : D) (start : Engine)
    : Type 0 where
  pub i : ℕ
  pub within : i < setup_count
  pub old : Progress
  pub before : SetsUp i (uncounted start) old
  pub half : IsHalf images a b (OctetsHalt no_tables (setup i)) old

-- With the line of event k in hand, or with the line behind it.
abbrev pub IsHaltedAt : {D : Type 0} → (images : D → List ℕ → Type 0) → (a b : D) → (k : ℕ)
    → (start : Progress) → Type 0
IsHaltedAt images a b k start =
    ((old : Progress) × EventLinesRun k start old
    × IsHalf images a b (OctetsHalt no_tables (event_line k)) old)
    ⊎ ((old : Progress) × (middle : Progress) × (k % 10000 ≡ 9999) × EventLinesRun k start middle
    × MayDo no_tables (event_line k) middle old
    × IsHalf images a b (OctetsHalt no_tables compaction) old)

-- With a line of some of n events in hand.
abbrev pub IsHaltedRunning : {D : Type 0} → (images : D → List ℕ → Type 0) → (a b : D) → (n : ℕ)
    → (start : Progress) → Type 0
IsHaltedRunning images a b n start = (k : ℕ) × (k < n) × IsHaltedAt images a b k start

-- With a line of a drill over n events in hand.
abbrev pub IsHalted : {D : Type 0} → (images : D → List ℕ → Type 0) → (a b : D) → (n : ℕ)
    → (start : Engine) → Type 0
IsHalted images a b n start =
    IsHaltedIn images a b start
    ⊎ ((made : Progress) × SetsUp setup_count (uncounted start) made
    × IsHaltedRunning images a b n (uncounted made.engine))

-- ---- a drill

-- Where an output tells what it held, the text was written to it so.
abbrev pub TellsOutput : (before out : Option (List ℕ)) → Output → (text : List ℕ) → Type 0
TellsOutput before out written text =
    (held : List ℕ) → before ≡ Some held → OutputOf held out written text

-- The lines of a drill over n events ran to their end, the files are those of where it ended, and its
-- summary was written as the output says.
abbrev pub Ended : {D : Type 0} → Output → (images : D → List ℕ → Type 0) → (a b : D) → (n : ℕ)
    → (start : Engine) → (before out : Option (List ℕ)) → Type 0
Ended written images a b n start before out =
    (end : Progress) × LinesRun n start end × AreFilesOf images a b end.engine
    × TellsOutput before out written (summary n end)

-- how a drill ended whose summary came to this
abbrev pub drilled_of : Output → Drilled
drilled_of output.Whole = drilled.Written
drilled_of output.Failed = drilled.WriteFault

-- From a store that was opened on.
abbrev pub LinesLeave : {D : Type 0} → Drilled → (images : D → List ℕ → Type 0) → (a b : D)
    → (n : ℕ) → (start : Engine) → (before out : Option (List ℕ)) → Type 0
LinesLeave drilled.Written images a b n start before out =
    Ended output.Whole images a b n start before out
LinesLeave (drilled.AlreadyAStore side) images a b n start before out = ⊥
LinesLeave drilled.MakingFault images a b n start before out = ⊥
LinesLeave (drilled.NotAStore side place) images a b n start before out = ⊥
LinesLeave drilled.OpeningFault images a b n start before out = ⊥
LinesLeave drilled.OutOfMemory images a b n start before out = ⊥
LinesLeave drilled.DiskFault images a b n start before out =
    IsHalted images a b n start
LinesLeave drilled.WriteFault images a b n start before out =
    Ended output.Failed images a b n start before out

-- Over the files x and y of a store that was just made.
abbrev pub OverLeaves : {D : Type 0} → Drilled → (images : D → List ℕ → Type 0) → (a b : D)
    → (n : ℕ) → (x y : List ℕ) → (before out : Option (List ℕ)) → Type 0
OverLeaves drilled.Written images a b n x y before out =
    (start : Engine) × IsStart x y start
    × LinesLeave drilled.Written images a b n start before out
OverLeaves (drilled.AlreadyAStore side) images a b n x y before out = ⊥
OverLeaves drilled.MakingFault images a b n x y before out = ⊥
OverLeaves (drilled.NotAStore side place) images a b n x y before out = ⊥
OverLeaves drilled.OpeningFault images a b n x y before out =
    FilesOpen images a b empty
OverLeaves drilled.OutOfMemory images a b n x y before out =
    FilesOpen images a b empty
OverLeaves drilled.DiskFault images a b n x y before out =
    (start : Engine) × IsStart x y start
    × LinesLeave drilled.DiskFault images a b n start before out
OverLeaves drilled.WriteFault images a b n x y before out =
    (start : Engine) × IsStart x y start
    × LinesLeave drilled.WriteFault images a b n start before out

-- The store was made of the files x and y, of which neither was open.
abbrev pub MadeLeaves : {D : Type 0} → Drilled → (images : D → List ℕ → Type 0) → (a b : D)
    → (n : ℕ) → (x y : List ℕ) → (before out : Option (List ℕ)) → Type 0
MadeLeaves answer images a b n x y before out =
    (IsOpen x → ⊥) × (IsOpen y → ⊥) × OverLeaves answer images a b n (store_over x) y before out

-- What a drill over n events leaves of the files x and y, and of an output that tells what it held. Where
-- the store isn't made, nothing was written to the second disk.
abbrev pub DrillLeaves : {D : Type 0} → Drilled → (reading : D → Option (List ℕ))
    → (images : D → List ℕ → Type 0) → (moment : D → ℕ)
    → (images_since : D → ℕ → List ℕ → Type 0) → (a_old a_new b_old b_new : D) → (n : ℕ)
    → (x y : List ℕ) → (before out : Option (List ℕ)) → Type 0
DrillLeaves (drilled.AlreadyAStore side) reading images moment images_since a_old a_new b_old b_new
    n x y before out =
    InitGives reading images (init.AlreadyAStore side) x y a_new b_new
    × InitLeaves reading images moment images_since (init.AlreadyAStore side) x y a_old a_new b_old
    b_new
    × Unwritten reading images moment images_since b_old b_new
DrillLeaves drilled.MakingFault reading images moment images_since a_old a_new b_old b_new n x y
    before out =
    InitLeaves reading images moment images_since init.DiskFault x y a_old a_new b_old b_new
    × Unwritten reading images moment images_since b_old b_new
DrillLeaves drilled.Written reading images moment images_since a_old a_new b_old b_new n x y before
    out =
    MadeLeaves drilled.Written images a_new b_new n x y before out
DrillLeaves (drilled.NotAStore side place) reading images moment images_since a_old a_new b_old
    b_new n x y before out =
    MadeLeaves (drilled.NotAStore side place) images a_new b_new n x y before out
DrillLeaves drilled.OpeningFault reading images moment images_since a_old a_new b_old b_new n x y
    before out =
    MadeLeaves drilled.OpeningFault images a_new b_new n x y before out
DrillLeaves drilled.OutOfMemory reading images moment images_since a_old a_new b_old b_new n x y
    before out =
    MadeLeaves drilled.OutOfMemory images a_new b_new n x y before out
DrillLeaves drilled.DiskFault reading images moment images_since a_old a_new b_old b_new n x y before
    out =
    MadeLeaves drilled.DiskFault images a_new b_new n x y before out
DrillLeaves drilled.WriteFault reading images moment images_since a_old a_new b_old b_new n x y before
    out =
    MadeLeaves drilled.WriteFault images a_new b_new n x y before out

-- P, where the output was asked for nothing
abbrev pub IfUnwritten : Drilled → Type 0 → Type 0
IfUnwritten drilled.Written P = ⊤
IfUnwritten (drilled.AlreadyAStore side) P = P
IfUnwritten drilled.MakingFault P = P
IfUnwritten (drilled.NotAStore side place) P = P
IfUnwritten drilled.OpeningFault P = P
IfUnwritten drilled.OutOfMemory P = P
IfUnwritten drilled.DiskFault P = P
IfUnwritten drilled.WriteFault P = ⊤

-- the answer where the store isn't opened
abbrev pub unopened : OpenFault → Drilled
unopened (fault.NotAStore side place) = drilled.NotAStore side place
unopened fault.DiskFault = drilled.OpeningFault
unopened fault.OutOfMemory = drilled.OutOfMemory

-- ---- faults

-- Each fault comes only where the count of what failed rose.
abbrev pub HasCause : Drilled → (a_old a_new b_old b_new out_old out_new : ℕ) → Type 0
HasCause drilled.Written a_old a_new b_old b_new out_old out_new = ⊤
HasCause (drilled.AlreadyAStore side) a_old a_new b_old b_new out_old out_new = ⊤
HasCause drilled.MakingFault a_old a_new b_old b_new out_old out_new =
    Rose a_old a_new ⊎ Rose b_old b_new
HasCause (drilled.NotAStore side place) a_old a_new b_old b_new out_old out_new = ⊤
HasCause drilled.OpeningFault a_old a_new b_old b_new out_old out_new =
    Rose a_old a_new ⊎ Rose b_old b_new
HasCause drilled.OutOfMemory a_old a_new b_old b_new out_old out_new = ⊤
HasCause drilled.DiskFault a_old a_new b_old b_new out_old out_new =
    Rose a_old a_new ⊎ Rose b_old b_new
HasCause drilled.WriteFault a_old a_new b_old b_new out_old out_new = Rose out_old out_new
