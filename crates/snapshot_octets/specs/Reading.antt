-- Reading a snapshot from left to right, with the first fault that is met (FORMATS, Octets of
-- snapshots).
use Rattle.std.specs.Prelude.{◌==◌, ◌||◌, ℕ, List, [], Bool, nat_le, Result, Ok, Err}
use Rattle.config_model.specs.Names.{name_at}
use Rattle.config_model.specs.Reading.{octet_at, four_at}
use Rattle.config_model.specs.Readers.{mapped, in_turn, in_turn_by, list_at, tested, whole}
use Rattle.command_codec.specs.Blocks.{block_at}
use Rattle.command_codec.specs.ReadingOfBlockReading as collections
use Rattle.check_model.specs.declared.checks.Check.{Check}
use Rattle.command_codec.specs.Fields.{counted_at, spelled_at}
use Rattle.command_codec.specs.ReadingOfCheckReading.{check_at}
use Rattle.config_model.specs.CidrLocationRecord.{CidrLocation}
use Rattle.config_model.specs.CollectionRecord.{Collection}
use Rattle.command_codec.specs.Reading.{set_at}
use Rattle.config_model.specs.Configs.{Config}
use Rattle.config_model.specs.Prefixes.{Prefix}
use Rattle.config_model.specs.RecordSetRecord.{RecordSet}
use Rattle.snapshot_octets.specs.Octets.{spells_collections}
use Rattle.config_model.specs.Hosted.{HostedZone}

-- the versions 1, 2 and 3
abbrev pub is_version : ℕ → Bool
is_version version = version == 1 || (version == 2 || version == 3)

unfoldable pub version_at : List ℕ → Result (ℕ × List ℕ) ℕ
version_at octets = tested is_version octet_at octets

-- a check behind its number
unfoldable pub numbered_check_at : (version : ℕ) → List ℕ → Result ((ℕ × Check) × List ℕ) ℕ
numbered_check_at version octets = in_turn four_at (check_at version) octets

-- a location: its name, and its blocks
abbrev pub located : List ℕ × List Prefix → CidrLocation
located fields = record { name = fields.0; blocks = fields.1 }

unfoldable pub location_at : List ℕ → Result (CidrLocation × List ℕ) ℕ
location_at octets = mapped located (in_turn collections.location_at (list_at block_at)) octets

-- a collection: its name, and its locations
abbrev pub collected : List ℕ × List CidrLocation → Collection
collected fields = record { name = fields.0; locations = fields.1 }

unfoldable pub collection_at : List ℕ → Result (Collection × List ℕ) ℕ
collection_at octets = mapped collected (in_turn collections.name_at (list_at location_at)) octets

unfoldable pub numbered_collection_at : List ℕ → Result ((ℕ × Collection) × List ℕ) ℕ
numbered_collection_at octets = in_turn four_at collection_at octets

-- the next number of a collection is above 1 where it is told
abbrev pub is_later : ℕ → Bool
is_later next = nat_le 2 next

unfoldable pub later_at : List ℕ → Result (ℕ × List ℕ) ℕ
later_at octets = tested is_later four_at octets

-- a zone: its number, its name, and its sets
abbrev pub hosted : (ℕ × List (List ℕ)) × List RecordSet → HostedZone
hosted fields = record { id = fields.0.0; apex = fields.0.1; sets = fields.1 }

unfoldable pub zone_at : List ℕ → Result (HostedZone × List ℕ) ℕ
zone_at octets = mapped hosted (in_turn (in_turn four_at name_at) (counted_at four_at set_at)) octets

-- the numbers, the checks, the collections and the zones
abbrev pub configured : ((((ℕ × ℕ) × ℕ) × List (ℕ × Check)) × List (ℕ × Collection))
    × List HostedZone → Config
configured fields = record {
  zones = fields.1;
  next_zone = fields.0.0.0.0.0;
  checks = record { next = fields.0.0.0.0.1; list = fields.0.0.1 };
  collections = record { next = fields.0.0.0.1; list = fields.0.1 };
}

unfoldable pub config_at : (version : ℕ) → List ℕ → Result (Config × List ℕ) ℕ
config_at version octets =
    mapped configured
    (in_turn (in_turn (in_turn (in_turn (in_turn four_at four_at)
    (spelled_at (spells_collections version) 1 later_at))
    (list_at (numbered_check_at version)))
    (spelled_at (spells_collections version) [] (list_at numbered_collection_at)))
    (list_at zone_at)) octets

-- the version, and the configuration behind it
unfoldable pub versioned_at : List ℕ → Result ((ℕ × Config) × List ℕ) ℕ
versioned_at octets = in_turn_by version_at config_at octets

-- the configuration, whatever the version
abbrev pub unversioned : Result (ℕ × Config) ℕ → Result Config ℕ
unversioned (Ok x) = Ok x.1
unversioned (Err place) = Err place

-- The configuration that octets are, in any version, with nothing behind it; or the place of the
-- first fault.
unfoldable pub read : List ℕ → Result Config ℕ
read octets = unversioned (whole versioned_at octets)
