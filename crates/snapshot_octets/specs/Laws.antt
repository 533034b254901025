-- Laws over snapshots.
use Rattle.std.specs.Prelude.{◌≡◌, ◌≤◌, ℕ, List, length, Result, Ok, Err}
use Rattle.dns_name.specs.Names.{AreOctets}
use Rattle.config_model.specs.Configs.{Config}
use Rattle.config_model.specs.Sound.{Sound}
use Rattle.snapshot_octets.specs.Octets.{HasSnapshot, IsSnapshot, snapshot, snapshot_octets}
use Rattle.snapshot_octets.specs.Reading.{read}

-- Octets are a snapshot of one configuration at most, whatever the version.
abbrev pub OneConfiguration : Type 0
OneConfiguration = (octets : List ℕ) (config other : Config)
    → IsSnapshot octets config → IsSnapshot octets other → config ≡ other

-- In each version a configuration has one snapshot, which is read as that configuration.
abbrev pub SnapshotsReadBack : Type 0
SnapshotsReadBack = (version : ℕ) (config : Config) → HasSnapshot version config
    → read (snapshot_octets version config) ≡ Ok config

-- What is written of a sound configuration is a snapshot of it.
abbrev pub SoundHaveSnapshots : Type 0
SoundHaveSnapshots = (config : Config) → Sound config → IsSnapshot (snapshot config) config

-- What reading tells: the configuration of which octets are a snapshot; or a place among them, or
-- behind the last, where they are one of none.
abbrev pub TellsConfig : List ℕ → Result Config ℕ → Type 0
TellsConfig octets (Ok config) = IsSnapshot octets config
TellsConfig octets (Err place) =
    (place ≤ length octets) × ((config : Config) → IsSnapshot octets config → ⊥)

abbrev pub SnapshotsAreTold : Type 0
SnapshotsAreTold = (octets : List ℕ) → AreOctets octets → TellsConfig octets (read octets)

-- What is written of a sound configuration has at most 268,435,435 octets: a compaction takes it.
abbrev pub SoundAreShort : Type 0
SoundAreShort = (config : Config) → Sound config → length (snapshot config) ≤ 268435435
