-- The fields of a snapshot, in their order (FORMATS, Octets of snapshots).
use Rattle.std.specs.Prelude.{◌≡◌, ℕ, ◌<◌, ◌≤◌, ◌^◌, List, [], ◌∷◌, ◌++◌, length}
use Rattle.std.specs.List.{flat_map, AllByRecursion}
use Rattle.octets.specs.Numbers.{two_octets, four_octets}
use Rattle.octet_reading.specs.Rules.{AreListable, text_octets}
use Rattle.set_reading.specs.Labels.{wire}
use Rattle.set_reading.specs.Names.{IsName}
use Rattle.set_reading.specs.Octets.{set_octets, most_octets}
use Rattle.set_reading.specs.RecordSetRecord.{RecordSet}
use Rattle.check_model.specs.declared.checks.Check.{Check}
use Rattle.config_model.specs.CidrLocationRecord.{CidrLocation}
use Rattle.config_model.specs.CollectionRecord.{Collection}
use Rattle.snapshot_octets.specs.Configs.{Config}
use Rattle.snapshot_octets.specs.Hosted.{HostedZone}
use Rattle.snapshot_octets.specs.Octets.{IsVersion, spells_collections, zone_octets, snapshot_octets}
use Rattle.snapshot_octets.specs.Octets.{IsWhereSpelled, IsHeldCheck, IsHeldCollection, IsSpelledZone}
use Rattle.snapshot_octets.specs.Octets.{HasSnapshot, IsSnapshot}
use Rattle.fault_places.specs.Fields.{Field, spelling}
use Rattle.fault_places.specs.Sets.{sized, open_ended, fields_of_set, IsInGrammar}
use Rattle.command_faults.specs.Commands.{four_fields, list_fields, where_spelled, check_fields, block_fields}

-- a check behind its number
abbrev pub held_check_fields : (version : ℕ) → ℕ × Check → List Field
held_check_fields version held = sized (four_octets held.0) ∷ check_fields version held.1

-- a location: its name, and its blocks
abbrev pub location_fields : CidrLocation → List Field
location_fields location =
    open_ended (text_octets location.name) ∷ list_fields block_fields location.blocks

-- a collection: its name, and its locations; it stands behind its number
abbrev pub collection_fields : Collection → List Field
collection_fields collection =
    open_ended (text_octets collection.name) ∷ list_fields location_fields collection.locations

abbrev pub held_collection_fields : ℕ × Collection → List Field
held_collection_fields held = sized (four_octets held.0) ∷ collection_fields held.1

-- a list that may be long: how many there are, in four octets, and the fields of these
abbrev pub counted_fields : {A : Type 0} → (A → List Field) → List A → List Field
counted_fields fields xs = sized (four_octets (length xs)) ∷ flat_map fields xs

-- a zone: its number, its name, how many sets it has, and the fields of these
abbrev pub zone_fields : HostedZone → List Field
zone_fields zone =
    sized (four_octets zone.id) ∷ open_ended (wire zone.apex)
    ∷ counted_fields fields_of_set zone.sets

-- What stands in front of the zones: the version; the next numbers of zones, of checks and, where
-- they are told, of collections; the checks; and the collections where they are told.
abbrev pub front_fields : ℕ × Config → List Field
front_fields versioned =
    sized (versioned.0 ∷ []) ∷ sized (four_octets versioned.1.next_zone)
    ∷ sized (four_octets versioned.1.checks.next)
    ∷ (where_spelled (spells_collections versioned.0) (four_fields versioned.1.collections.next)
    ++ list_fields (held_check_fields versioned.0) versioned.1.checks.list
    ++ where_spelled (spells_collections versioned.0)
    (list_fields held_collection_fields versioned.1.collections.list))

-- that, and the zones
abbrev pub fields_of : ℕ × Config → List Field
fields_of versioned = front_fields versioned ++ list_fields zone_fields versioned.1.zones

-- the octets of a configuration in a version
abbrev pub octets_of_snapshot : ℕ × Config → List ℕ
octets_of_snapshot versioned = snapshot_octets versioned.0 versioned.1

-- a zone whose sets' fields are in the grammar, however many octets these have
pub record IsZoneInGrammar (zone : HostedZone) : Type 0 where
  pub name : IsName zone.apex
  pub sets : AllByRecursion IsInGrammar zone.sets

-- What has a snapshot in a version, but that its sets may have as many octets as you like.
pub record HasGrammar (version : ℕ) (config : Config) : Type 0 where
  pub known : IsVersion version
  pub next : IsWhereSpelled (spells_collections version) 1 (λ next. 2 ≤ next) config.collections.next
  pub checks : AreListable (IsHeldCheck version) config.checks.list
  pub collections : IsWhereSpelled (spells_collections version) [] (AreListable IsHeldCollection)
      config.collections.list
  pub zones : AreListable IsZoneInGrammar config.zones

-- A version, and a configuration whose fields are in that version's grammar.
abbrev pub IsSnapshotInGrammar : ℕ × Config → Type 0
IsSnapshotInGrammar versioned = HasGrammar versioned.0 versioned.1

-- The octets in front of a set: what stands in front of the zones; how many zones there are, and
-- those before the set's own, which are the zones of the configuration; the number and the name of
-- its own; how many sets that has, and those before this one, which are the sets of the zone.
abbrev pub octets_before : (version : ℕ) (config : Config) (zones : ℕ) (zone : HostedZone)
    (sets : ℕ) → List ℕ
octets_before version config zones zone sets =
    spelling (front_fields (version, config)) ++ two_octets zones
    ++ flat_map zone_octets config.zones ++ four_octets zone.id ++ wire zone.apex
    ++ four_octets sets ++ flat_map set_octets zone.sets

-- Octets of a snapshot go on to a set at this place that is longer than sets may be and has its
-- fields in the grammar: whole zones stand before its own, fewer than the snapshot has, and whole
-- sets before it, fewer than its zone has.
pub record HasLongSetAt (octets : List ℕ) (place : ℕ) : Type 0 where
  pub version : ℕ
  pub config : Config
  pub zones : ℕ
  pub zone : HostedZone
  pub sets : ℕ
  pub set : RecordSet
  pub rest : List ℕ
  pub has : HasSnapshot version config
  pub few : zones < 2 ^ 16
  pub fewer : length config.zones < zones
  pub is_zone : IsSpelledZone zone
  pub fewer_sets : length zone.sets < sets
  pub is : IsInGrammar set
  pub long : most_octets < length (set_octets set)
  pub parts : octets ≡ octets_before version config zones zone sets ++ (set_octets set ++ rest)
  pub behind : place ≡ length (octets_before version config zones zone sets)

-- More octets stand behind a whole snapshot, which ends at this place.
pub record HasSurplusAt (octets : List ℕ) (place : ℕ) : Type 0 where
  pub front : List ℕ
  pub surplus : List ℕ
  pub config : Config
  pub is : IsSnapshot front config
  pub some : 0 < length surplus
  pub parts : octets ≡ front ++ surplus
  pub behind : place ≡ length front
