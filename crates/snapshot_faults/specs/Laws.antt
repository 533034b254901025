-- Where the first fault of the octets of a snapshot stands.
use Rattle.std.specs.Prelude.{◌≡◌, ℕ, ◌+◌, ◌<◌, ◌≤◌, ◌⊎◌, ◌↔◌, List, ◌++◌, length, Err}
use Rattle.std.specs.List.{AllByRecursion}
use Rattle.set_reading.specs.Names.{AreOctets}
use Rattle.snapshot_octets.specs.Configs.{Config}
use Rattle.snapshot_octets.specs.Reading.{read}
use Rattle.fault_places.specs.Fields.{Field, spelling, StopsIn}
use Rattle.snapshot_faults.specs.Snapshots.{fields_of, octets_of_snapshot, IsSnapshotInGrammar, HasLongSetAt, HasSurplusAt}

-- The octets of a configuration in a version are its fields, one behind another.
abbrev pub SnapshotsAreFields : Type 0
SnapshotsAreFields =
    (versioned : ℕ × Config) → octets_of_snapshot versioned ≡ spelling (fields_of versioned)

-- Each field of a snapshot has an octet at least.
abbrev pub NoFieldIsEmpty : Type 0
NoFieldIsEmpty =
    (versioned : ℕ × Config) → IsSnapshotInGrammar versioned
    → AllByRecursion (λ (field : Field). 0 < length field.octets) (fields_of versioned)

-- Octets stop at this place on their way to a snapshot.
pub record SnapshotStopsAt (octets : List ℕ) (place : ℕ) : Type 0 where
  pub left : ℕ
  pub behind : place + left ≡ length octets
  pub stops : StopsIn IsSnapshotInGrammar fields_of octets left

-- octets that are the first of a snapshot's in one of the versions, however long its sets
abbrev pub GoesOn : List ℕ → Type 0
GoesOn octets =
    (versioned : ℕ × Config) × (more : List ℕ) × IsSnapshotInGrammar versioned
    × (octets ++ more ≡ octets_of_snapshot versioned)

-- octets with which no snapshot's agree as far as both go
abbrev pub CanBeNoSnapshot : List ℕ → Type 0
CanBeNoSnapshot octets =
    (versioned : ℕ × Config) (more rest : List ℕ) → IsSnapshotInGrammar versioned
    → octets ++ more ≡ octets_of_snapshot versioned ++ rest → ⊥

-- Up to the field where octets stop they could go on to a snapshot. There they end; or with what
-- stands there they can't.
abbrev pub FaultsStandFirst : Type 0
FaultsStandFirst =
    (octets : List ℕ) (place : ℕ) (stops : SnapshotStopsAt octets place)
    → GoesOn stops.stops.before × (length stops.stops.before ≤ place)
    × ((place ≡ length octets) ⊎ CanBeNoSnapshot octets)

-- Where octets stop on their way to a snapshot, with no set before it that is longer than sets may
-- be; where such a set begins; or behind a whole snapshot.
abbrev pub HasFaultAt : (octets : List ℕ) (place : ℕ) → Type 0
HasFaultAt octets place =
    (SnapshotStopsAt octets place × ((other : ℕ) → HasLongSetAt octets other → other < place → ⊥))
    ⊎ (HasLongSetAt octets place ⊎ HasSurplusAt octets place)

-- Reading tells this place exactly where octets have their fault at it.
abbrev pub SnapshotFaultsAsTold : Type 0
SnapshotFaultsAsTold =
    (octets : List ℕ) (place : ℕ) → AreOctets octets
    → (read octets ≡ Err place) ↔ HasFaultAt octets place

-- Octets have one fault at most.
abbrev pub OneFaultOfSnapshots : Type 0
OneFaultOfSnapshots =
    (octets : List ℕ) (place other : ℕ) → AreOctets octets → HasFaultAt octets place
    → HasFaultAt octets other → place ≡ other
