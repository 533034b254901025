-- A run in which nothing failed did what it was asked, or found no memory.
use Rattle.std.specs.Prelude.{◌≡◌, ℕ, List, false, Ok, Option, Some}
use Rattle.config_model.specs.Configs.{Config}
use Rattle.gate_journal.specs.Layout.{IsOpen}
use Rattle.geo_latency.specs.declared.tables.Tables.{Tables}
use Rattle.line_splitting.specs.Lines.{is_too_long}
use Rattle.octets.specs.Counts.{Rose}
use Rattle.r53_cli.specs.Run.{IsCarriedOut}
use Rattle.r53_cli.specs.Sessions.{Counts, Drills, Dumps, InitRuns, Runs, Devices}
use Rattle.r53_cli.specs.declared.status.Status.{Status}
use Rattle.r53_cli.specs.declared.status.Status.TheVariants as status
use Rattle.session_run.specs.Steps.{State}
use Rattle.session_run.specs.Running.{Given, IsBeginning, IsTold}
use Rattle.dump_run.specs.Opening.{OpensConfig}
use Rattle.table_lines.specs.Input.{tables_of}

-- No count rose.
abbrev pub NoneRose : (were are : Counts) → Type 0
NoneRose were are =
    (Rose were.input are.input → ⊥) × (Rose were.tables are.tables → ⊥)
    × (Rose were.out are.out → ⊥) × (Rose were.a are.a → ⊥) × (Rose were.b are.b → ⊥)
    × (Rose were.link are.link → ⊥)

-- `run` on a store, with good tables and an input that ends within the limit.
abbrev pub RunCompletes : {D : Type 0} → (reading : D → Option (List ℕ))
    → (images : D → List ℕ → Type 0) → (moment : D → ℕ)
    → (images_since : D → ℕ → List ℕ → Type 0) → Type 0
RunCompletes {D} reading images moment images_since =
    (result : Status) (a_old a_new b_old b_new : D) (before after : Devices) (were are : Counts)
    → Runs reading images moment images_since result a_old a_new b_old b_new before after were are
    → (given : Given) (start : State) (tables : Tables)
    → IsTold given before.left before.rows (reading a_old) (reading b_old) before.held before.ports
    before.coming before.sent before.words
    → IsBeginning given start → tables_of given.rows ≡ Ok tables → is_too_long given.input ≡ false
    → NoneRose were are → IsCarriedOut result

-- `init` where neither file is open: it takes no memory.
abbrev pub InitCompletes : {D : Type 0} → (reading : D → Option (List ℕ))
    → (images : D → List ℕ → Type 0) → (moment : D → ℕ)
    → (images_since : D → ℕ → List ℕ → Type 0) → Type 0
InitCompletes {D} reading images moment images_since =
    (result : Status) (a_old a_new b_old b_new : D) (a_were a_are b_were b_are : ℕ)
    → InitRuns reading images moment images_since result a_old a_new b_old b_new a_were a_are b_were
    b_are
    → (x y : List ℕ) → reading a_old ≡ Some x → reading b_old ≡ Some y → (IsOpen x → ⊥)
    → (IsOpen y → ⊥) → (Rose a_were a_are → ⊥) → (Rose b_were b_are → ⊥)
    → result ≡ status.Done

-- `dump` of files that open to a configuration.
abbrev pub DumpCompletes : {D : Type 0} → (reading : D → Option (List ℕ))
    → (images : D → List ℕ → Type 0) → (moment : D → ℕ)
    → (images_since : D → ℕ → List ℕ → Type 0) → Type 0
DumpCompletes {D} reading images moment images_since =
    (result : Status) (a_old a_new b_old b_new : D) (before after : Option (List ℕ))
    (out_were out_are a_were a_are b_were b_are : ℕ)
    → Dumps reading images moment images_since result a_old a_new b_old b_new before after out_were
    out_are a_were a_are b_were b_are
    → (x y : List ℕ) (config : Config) → reading a_old ≡ Some x → reading b_old ≡ Some y
    → OpensConfig x y config → (Rose out_were out_are → ⊥) → (Rose a_were a_are → ⊥)
    → (Rose b_were b_are → ⊥) → IsCarriedOut result

-- `drill` where neither file is open.
abbrev pub DrillCompletes : {D : Type 0} → (reading : D → Option (List ℕ))
    → (images : D → List ℕ → Type 0) → (moment : D → ℕ)
    → (images_since : D → ℕ → List ℕ → Type 0) → Type 0
DrillCompletes {D} reading images moment images_since =
    (events : ℕ) (result : Status) (a_old a_new b_old b_new : D) (before after : Option (List ℕ))
    (out_were out_are a_were a_are b_were b_are : ℕ)
    → Drills reading images moment images_since events result a_old a_new b_old b_new before after
    out_were out_are a_were a_are b_were b_are
    → (x y : List ℕ) → reading a_old ≡ Some x → reading b_old ≡ Some y → (IsOpen x → ⊥)
    → (IsOpen y → ⊥) → (Rose out_were out_are → ⊥) → (Rose a_were a_are → ⊥)
    → (Rose b_were b_are → ⊥) → IsCarriedOut result
