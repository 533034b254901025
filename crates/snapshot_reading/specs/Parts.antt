-- The parts of a snapshot: what stands in front of its zones, and each zone (FORMATS, Octets of
-- snapshots).
use Rattle.std.specs.Prelude.{◌≡◌, ◌≤◌, ℕ, List, [], ◌∷◌, ◌++◌, drop, length, Result, Ok, Err}
use Rattle.octet_reading.specs.Reading.{Stops, two_at, four_at}
use Rattle.octet_reading.specs.declared.stop.Stop.{Stop}
use Rattle.octet_reading.specs.Readers.{mapped, in_turn, in_turn_by, list_at}
use Rattle.check_model.specs.Checks.{Checks}
use Rattle.check_model.specs.declared.checks.Check.{Check}
use Rattle.check_reading.specs.Fields.{counted_at, spelled_at}
use Rattle.cidr_blocks.specs.declared.places.Collection.{Collection}
use Rattle.cidr_commands.specs.Stored.{Stored}
use Rattle.snapshot_octets.specs.ReadingOfCommandCodec.{set_at}
use Rattle.snapshot_octets.specs.Configs.{Config}
use Rattle.snapshot_octets.specs.RecordSetRecord.{RecordSet}
use Rattle.snapshot_octets.specs.Octets.{spells_collections}
use Rattle.snapshot_octets.specs.Reading.{numbered_check_at, numbered_collection_at, later_at, version_at}
use Rattle.snapshot_reading.specs.declared.fronts.Front.{Front}
use Rattle.snapshot_reading.specs.declared.zones.FoundZone.{FoundZone}
use Rattle.snapshot_octets.specs.Hosted.{HostedZone}

-- What stands in front of the zones, and how many of these follow.
pub record Begun : Type 0 where
  pub next_zone : ℕ
  pub checks : Checks
  pub collections : Stored
  pub zones : ℕ

-- the configuration that has these zones
abbrev pub with_zones : Begun → List HostedZone → Config
with_zones front zones = record {
  zones = zones;
  next_zone = front.next_zone;
  checks = front.checks;
  collections = front.collections;
}

-- the next number of a collection, which is 1 where it isn't told
unfoldable pub next_collection_at : (version : ℕ) → List ℕ → Result (ℕ × List ℕ) ℕ
next_collection_at version octets = spelled_at (spells_collections version) 1 later_at octets

-- the checks
unfoldable pub checks_at : (version : ℕ) → List ℕ → Result (List (ℕ × Check) × List ℕ) ℕ
checks_at version octets = list_at (numbered_check_at version) octets

-- the collections, of which there are none where they aren't told
unfoldable pub collections_at : (version : ℕ) → List ℕ
    → Result (List (ℕ × Collection) × List ℕ) ℕ
collections_at version octets =
    spelled_at (spells_collections version) [] (list_at numbered_collection_at) octets

-- these fields, as what stands in front of the zones
abbrev pub begun : ((((ℕ × ℕ) × ℕ) × List (ℕ × Check)) × List (ℕ × Collection)) × ℕ → Begun
begun fields = record {
  next_zone = fields.0.0.0.0.0;
  checks = record { next = fields.0.0.0.0.1; list = fields.0.0.1 };
  collections = record { next = fields.0.0.0.1; list = fields.0.1 };
  zones = fields.1;
}

-- the next numbers, the checks and the collections, and how many zones follow
unfoldable pub begun_at : (version : ℕ) → List ℕ → Result (Begun × List ℕ) ℕ
begun_at version octets =
    mapped begun
    (in_turn (in_turn (in_turn (in_turn (in_turn four_at four_at) (next_collection_at version))
    (checks_at version)) (collections_at version)) two_at) octets

-- The version, and behind it all that stands in front of the zones.
unfoldable pub front_at : List ℕ → Result (Begun × List ℕ) ℕ
front_at octets = mapped (λ x. x.1) (in_turn_by version_at begun_at) octets

-- how many sets a zone has, and these
unfoldable pub sets_at : List ℕ → Result (List RecordSet × List ℕ) ℕ
sets_at octets = counted_at four_at set_at octets

-- The set at the front of octets came behind others, and has so many octets; or the octets are outside
-- the grammar from a place on, or there is no memory.
abbrev pub AddsSet : (before after : List RecordSet) → List ℕ → Result ℕ Stop → Type 0
AddsSet before after octets (Ok n) = (n ≤ length octets)
    × ((set : RecordSet) × (set_at octets ≡ Ok (set, drop n octets)) × (after ≡ before ++ set ∷ []))
AddsSet before after octets (Err e) = Stops e (set_at octets)

-- ---- what is returned, in these words, beside a place or what is left

-- what stands in front of the zones
abbrev pub begun_of : {A : Type 0} → Front × A → Begun × A
begun_of found = (
  record {
    next_zone = found.0.next_zone;
    checks = record { next = found.0.next_check; list = found.0.checks.items };
    collections = record { next = found.0.next_collection; list = found.0.collections.items };
    zones = found.0.zones;
  },
  found.1,
)

-- a zone
abbrev pub hosted_of : {A : Type 0} → FoundZone × A → HostedZone × A
hosted_of found = (
  record { id = found.0.id; apex = found.0.apex; sets = found.0.sets.items },
  found.1,
)
