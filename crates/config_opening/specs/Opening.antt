-- A store that is opened.
use Rattle.std.specs.Prelude.{◌≡◌, ◌⊎◌, ℕ, List, [], None, Result, Ok, Err, ⊤}
use Rattle.config_journal.specs.Configs.{Config}
use Rattle.gate_journal.specs.Read.{IsRead}
use Rattle.config_journal.specs.Opening.{MakesConfig}
use Rattle.zone_journal.specs.Pairs.{BothSynced, IsActive, NoneSynced, OneSynced, active_of, other_of}
use Rattle.zone_journal.specs.Standing.{State as Journal}
use Rattle.zone_journal.specs.declared.answers.OpenFault.{OpenFault}
use Rattle.zone_journal.specs.declared.answers.OpenFault.TheVariants as fault
use Rattle.zone_journal.specs.declared.answers.Side.{Side}

-- The file of the journal's side decides, and up to its first gate it has a snapshot of these octets.
abbrev pub IsAtFirstGate : Journal → (octets : List ℕ) → (x y : List ℕ) → Type 0
IsAtFirstGate journal octets x y =
    IsActive journal.side (active_of journal.side x y) (other_of journal.side x y)
    × IsRead journal.at (active_of journal.side x y) journal.generation octets []
    × (journal.plan ≡ None)

-- The file of the journal's side decides, and up to the gate that is read next its snapshot and its
-- entries make the configuration.
pub record Replays (journal : Journal) (config : Config) (x y : List ℕ) : Type 0 where
  pub active : IsActive journal.side (active_of journal.side x y) (other_of journal.side x y)
  pub snapshot : List ℕ
  pub entries : List (List ℕ)
  pub read : IsRead journal.at (active_of journal.side x y) journal.generation snapshot entries
  pub makes : MakesConfig snapshot entries config

-- P of the side and the place at which the files are told to be no store
abbrev pub IsFault : {A : Type 0} → Result A OpenFault → (P : Side → ℕ → Type 0) → Type 0
IsFault (Ok what) P = ⊤
IsFault (Err (fault.NotAStore side place)) P = P side place
IsFault (Err fault.DiskFault) P = ⊤
IsFault (Err fault.OutOfMemory) P = ⊤

-- What a crash leaves of the files x and y, by the answer. Both were synced before either was looked
-- at; memory can be short before the first sync, or behind both.
abbrev pub Syncs : {A D : Type 0} → (images : D → List ℕ → Type 0) → Result A OpenFault
    → (x y : List ℕ) → (a_old a_new b_old b_new : D) → Type 0
Syncs images (Ok opened) x y a_old a_new b_old b_new = BothSynced images x y a_new b_new
Syncs images (Err (fault.NotAStore side place)) x y a_old a_new b_old b_new =
    BothSynced images x y a_new b_new
Syncs images (Err fault.DiskFault) x y a_old a_new b_old b_new =
    NoneSynced images a_old a_new b_old b_new ⊎ OneSynced images x a_new b_old b_new
    ⊎ BothSynced images x y a_new b_new
Syncs images (Err fault.OutOfMemory) x y a_old a_new b_old b_new =
    NoneSynced images a_old a_new b_old b_new ⊎ BothSynced images x y a_new b_new
