-- What comes of a dump, by its answer.
use Rattle.std.specs.Prelude.{◌≡◌, ◌⊎◌, ℕ, List, Option, Some, ⊤}
use Rattle.config_model.specs.Configs.{Config}
use Rattle.dump_sending.specs.Dumps.{dump_text}
use Rattle.store_model.specs.Opening.{IsNoStore, OpensConfig}
use Rattle.whole_writing.specs.Output.{OutputOf}
use Rattle.whole_writing.specs.declared.output.Output.TheVariants as output
use Rattle.zone_journal.specs.Pairs.{BothSynced, NoneSynced, OneSynced}
use Rattle.zone_journal.specs.declared.answers.OpenFault.{OpenFault}
use Rattle.zone_journal.specs.declared.answers.OpenFault.TheVariants as fault
use Rattle.dump_run.specs.declared.answers.Dumped.{Dumped}
use Rattle.dump_run.specs.declared.answers.Dumped.TheVariants as dumped

-- Lines are written only where the files open to a configuration. NotAStore is told only of files
-- that are no store, at the place where that is seen, and so never of those that open to one.
abbrev pub IsTold : Dumped → (x y : List ℕ) → Type 0
IsTold dumped.Written x y = (config : Config) × OpensConfig x y config
IsTold (dumped.NotAStore side place) x y =
    IsNoStore x y side place × ((config : Config) → OpensConfig x y config → ⊥)
IsTold dumped.OpeningFault x y = ⊤
IsTold dumped.OutOfMemory x y = ⊤
IsTold dumped.WriteFault x y = (config : Config) × OpensConfig x y config

-- the answer at a fault of the opening
abbrev pub told_of : OpenFault → Dumped
told_of (fault.NotAStore side place) = dumped.NotAStore side place
told_of fault.DiskFault = dumped.OpeningFault
told_of fault.OutOfMemory = dumped.OutOfMemory

-- What a sink that held some octets holds now, where the files open to this configuration: all lines
-- of its dump behind them; where the sink failed a first part of these that isn't the whole; else
-- nothing more.
abbrev pub DumpLeaves : Dumped → (held : List ℕ) (after : Option (List ℕ)) → Config → Type 0
DumpLeaves dumped.Written held after config = OutputOf held after output.Whole (dump_text config)
DumpLeaves (dumped.NotAStore side place) held after config = after ≡ Some held
DumpLeaves dumped.OpeningFault held after config = after ≡ Some held
DumpLeaves dumped.OutOfMemory held after config = after ≡ Some held
DumpLeaves dumped.WriteFault held after config =
    OutputOf held after output.Failed (dump_text config)

-- P, where the answer is one of those at which the sink was asked for nothing
abbrev pub IsUnwritten : Dumped → Type 0 → Type 0
IsUnwritten dumped.Written P = ⊤
IsUnwritten (dumped.NotAStore side place) P = P
IsUnwritten dumped.OpeningFault P = P
IsUnwritten dumped.OutOfMemory P = P
IsUnwritten dumped.WriteFault P = ⊤

-- What a crash leaves of the files x and y, by the answer. Both were synced before either was looked
-- at; memory can be short before the first sync, or behind both.
abbrev pub DumpSyncs : {D : Type 0} → (images : D → List ℕ → Type 0) → Dumped → (x y : List ℕ)
    → (a_old a_new b_old b_new : D) → Type 0
DumpSyncs images dumped.Written x y a_old a_new b_old b_new = BothSynced images x y a_new b_new
DumpSyncs images (dumped.NotAStore side place) x y a_old a_new b_old b_new =
    BothSynced images x y a_new b_new
DumpSyncs images dumped.OpeningFault x y a_old a_new b_old b_new =
    NoneSynced images a_old a_new b_old b_new ⊎ OneSynced images x a_new b_old b_new
    ⊎ BothSynced images x y a_new b_new
DumpSyncs images dumped.OutOfMemory x y a_old a_new b_old b_new =
    NoneSynced images a_old a_new b_old b_new ⊎ BothSynced images x y a_new b_new
DumpSyncs images dumped.WriteFault x y a_old a_new b_old b_new = BothSynced images x y a_new b_new
