-- A sound configuration as it comes to be while a snapshot is read.
use Rattle.std.specs.Prelude.{◌≤◌, ℕ, List, [], ◌∷◌, ◌++◌, length}
use Rattle.config_zones.specs.Configs.{Config}
use Rattle.config_zones.specs.Sound.{Sound}
use Rattle.snapshot_reading.specs.Octets.{IsSnapshot}
use Rattle.snapshot_reading.specs.Laws.{IsReadTo}
use Rattle.snapshot_reading.specs.Parts.{Begun, begun_of, hosted_of, with_zones}
use Rattle.snapshot_reading.specs.declared.fronts.Front.{Front}
use Rattle.snapshot_reading.specs.declared.zones.FoundZone.{FoundZone}
use Rattle.zone_model.specs.Hosted.{HostedZone}
use Rattle.config_zones.specs.ZoneEditRecord.{ZoneEdit}
use Rattle.config_zones.specs.ZoneEditRecord.TheVariants as edit

-- The octets are a snapshot of a sound configuration.
pub record IsOfSound (octets : List ℕ) (config : Config) : Type 0 where
  pub snapshot : IsSnapshot octets config
  pub sound : Sound config

-- They are one of no sound configuration.
abbrev pub IsOfNone : (octets : List ℕ) → Type 0
IsOfNone octets = (config : Config) → IsOfSound octets config → ⊥

-- ---- what was read so far

-- the configuration with a zone more, behind those that it has
abbrev pub with_zone : Config → HostedZone → Config
with_zone config zone = record config { zones = config.zones ++ zone ∷ [] }

-- what stands in front of the zones of a configuration that has so many
abbrev pub front_of : Config → (count : ℕ) → Begun
front_of config count = record {
  next_zone = config.next_zone;
  checks = config.checks;
  collections = config.collections;
  zones = count;
}

-- The octets are read up to a place, as a sound configuration of the first of so many zones.
pub record IsReadSoundly (octets : List ℕ) (config : Config) (count at : ℕ) : Type 0 where
  pub read : IsReadTo octets (front_of config count) config.zones at
  pub few : length config.zones ≤ count
  pub sound : Sound config

-- ---- what is read, in these words

-- what stands in front of the zones, as a configuration without zones
abbrev pub config_in_front : Front → Config
config_in_front front = with_zones (begun_of {A = ℕ} (front, 0)).0 []

-- a zone
abbrev pub zone_found : FoundZone → HostedZone
zone_found zone = (hosted_of {A = ℕ} (zone, 0)).0

-- An edit opens a zone, and with it the configuration is sound.
abbrev pub OpensSoundly : Config → ZoneEdit → Type 0
OpensSoundly config (edit.Begin id name sets) =
    Sound (with_zone config (record { id = id; apex = name; sets = sets }))
OpensSoundly config (edit.End id) = ⊥
OpensSoundly config (edit.Change id remove add) = ⊥
OpensSoundly config (edit.Collections now) = ⊥
