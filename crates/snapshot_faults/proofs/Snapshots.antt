-- Where snapshots stop, however long their sets.
use Rattle.std.proofs.Common.{ℕ, ◌≤◌, inl, List, [], ◌∷◌, ◌++◌, refl}
use Rattle.std.specs.Prelude.{⊤}
use Rattle.octets.specs.Numbers.{four_octets}
use Rattle.octet_reading.specs.Names.{name_at}
use Rattle.octet_reading.specs.Readers.{Reader, mapped, in_turn, in_turn_by, list_at}
use Rattle.octet_reading.specs.Reading.{four_at}
use Rattle.octet_reading.specs.Rules.{AreListable, list_octets}
use Rattle.set_reading.specs.Labels.{wire}
use Rattle.set_reading.specs.Names.{IsName}
use Rattle.set_reading.specs.Reading as sets
use Rattle.check_octets.specs.Octets as checks
use Rattle.check_model.specs.declared.checks.Check.{Check}
use Rattle.check_reading.specs.Fields.{counted_at, spelled_at}
use Rattle.block_octets.specs.Idents.{IsCollectionName}
use Rattle.block_octets.specs.Prefixes.{Prefix}
use Rattle.block_octets.specs.Texts.{IsLocationName}
use Rattle.block_reading.specs.Blocks.{block_at}
use Rattle.block_reading.specs.Reading as collections
use Rattle.config_model.specs.CidrLocationRecord.{CidrLocation}
use Rattle.config_model.specs.CollectionRecord.{Collection}
use Rattle.snapshot_octets.specs.Configs.{Config}
use Rattle.snapshot_octets.specs.Hosted.{HostedZone}
use Rattle.snapshot_octets.specs.Octets.{IsVersion, IsWhereSpelled, IsHeldCheck, IsHeldCollection, IsPrefixed, IsSpelledLocation, IsSpelledCollection, spells_collections, numbered_check_octets, location_octets, collection_octets, held_collection_octets, zone_octets}
use Rattle.snapshot_octets.specs.Reading.{is_version, version_at, numbered_check_at, located, location_at, collected, collection_at, numbered_collection_at, later_at, hosted, configured}
use Rattle.snapshot_octets.proofs.Fields.{version_read}
use Rattle.fault_places.specs.Fields.{Field}
use Rattle.fault_places.specs.Sets.{sized}
use Rattle.fault_places.proofs.Leaves.{tested_octet}
use Rattle.fault_places.proofs.Steps.{Faults}
use Rattle.command_faults.specs.Commands.{four_fields, list_fields, name_fields, where_spelled}
use Rattle.command_faults.proofs.Parts.{Part, one_part, in_turn_part, in_turn_by_part, seen_part, alike_part, list_part}
use Rattle.command_faults.proofs.Checks.{number_part, check_part}
use Rattle.command_faults.proofs.Blocks as blocks
use Rattle.command_faults.proofs.Commands.{name_part, set_part}
use Rattle.snapshot_faults.specs.Snapshots.{held_check_fields, location_fields, collection_fields, held_collection_fields, zone_fields, fields_of, octets_of_snapshot, IsZoneInGrammar, IsSnapshotInGrammar}
use Rattle.snapshot_faults.proofs.Parts.{later_part, told_part, counted_part}

-- ---- checks

held_check_part : (version : ℕ) → Part (IsHeldCheck version) (numbered_check_octets version)
    (held_check_fields version) (numbered_check_at version)
unfolding numbered_check_at
held_check_part version = alike_part (in_turn_part number_part (check_part version))
    (λ held h. h.1) (λ held h. (tt, h)) (λ held. refl) (λ held. refl)

-- ---- collections

location_inner : Part (λ (p : List ℕ × List Prefix). IsLocationName p.0 × AreListable IsPrefixed p.1)
    (λ p. location_octets (located p)) (λ p. location_fields (located p))
    (in_turn collections.location_at (list_at block_at))
location_inner = in_turn_part blocks.location_part (list_part blocks.block_part)

location_part : Part IsSpelledLocation location_octets location_fields location_at
unfolding location_at
location_part =
    seen_part located location_inner
    (λ p h. (record { name = h.0; blocks = h.1 }, refl, refl))
    (λ location h. ((location.name, location.blocks), (h.name, h.blocks), refl))
    (λ location. location_inner.spells (location.name, location.blocks))

collection_inner : Part
    (λ (p : List ℕ × List CidrLocation). IsCollectionName p.0 × AreListable IsSpelledLocation p.1)
    (λ p. collection_octets (collected p)) (λ p. collection_fields (collected p))
    (in_turn collections.name_at (list_at location_at))
collection_inner = in_turn_part blocks.name_part (list_part location_part)

collection_part : Part IsSpelledCollection collection_octets collection_fields collection_at
unfolding collection_at
collection_part =
    seen_part collected collection_inner
    (λ p h. (record { name = h.0; locations = h.1 }, refl, refl))
    (λ collection h. ((collection.name, collection.locations), (h.name, h.locations), refl))
    (λ collection. collection_inner.spells (collection.name, collection.locations))

held_collection_part : Part IsHeldCollection held_collection_octets held_collection_fields
    numbered_collection_at
unfolding numbered_collection_at
held_collection_part = alike_part (in_turn_part number_part collection_part)
    (λ held h. h.1) (λ held h. (tt, h)) (λ held. refl) (λ held. refl)

-- ---- zones

-- what stands in front of the sets of a zone, and of their number
pub head_part : Part (λ (p : ℕ × List (List ℕ)). ⊤ × IsName p.1) (λ p. four_octets p.0 ++ wire p.1)
    (λ p. sized (four_octets p.0) ∷ name_fields p.1) (in_turn four_at name_at)
head_part = in_turn_part number_part name_part

-- zones whose sets have as many octets as you like
abbrev pub any_zone_at : Reader HostedZone
any_zone_at octets =
    mapped hosted (in_turn (in_turn four_at name_at) (counted_at four_at sets.set_at)) octets

pub zone_part : Part IsZoneInGrammar zone_octets zone_fields any_zone_at
zone_part =
    let inner = in_turn_part head_part (counted_part set_part) in
    seen_part hosted inner (λ p h. (record { name = h.0.1; sets = h.1 }, refl, refl))
    (λ zone h. (((zone.id, zone.apex), zone.sets), ((tt, h.name), h.sets), refl))
    (λ zone. inner.spells ((zone.id, zone.apex), zone.sets))

-- ---- what stands in front of the zones

-- the next numbers, the checks and the collections
abbrev pub Fronts : Type 0
Fronts = (((ℕ × ℕ) × ℕ) × List (ℕ × Check)) × List (ℕ × Collection)

abbrev pub IsFront : (version : ℕ) → Fronts → Type 0
IsFront version p =
    (((⊤ × ⊤) × IsWhereSpelled (spells_collections version) 1 (λ next. 2 ≤ next) p.0.0.1)
    × AreListable (IsHeldCheck version) p.0.1)
    × IsWhereSpelled (spells_collections version) [] (AreListable IsHeldCollection) p.1

abbrev pub fronts_octets : (version : ℕ) → Fronts → List ℕ
fronts_octets version p =
    four_octets p.0.0.0.0 ++ four_octets p.0.0.0.1
    ++ checks.where_spelled (spells_collections version) (four_octets p.0.0.1)
    ++ list_octets (numbered_check_octets version) p.0.1
    ++ checks.where_spelled (spells_collections version) (list_octets held_collection_octets p.1)

abbrev fronts_fields : (version : ℕ) → Fronts → List Field
fronts_fields version p =
    sized (four_octets p.0.0.0.0) ∷ sized (four_octets p.0.0.0.1)
    ∷ (where_spelled (spells_collections version) (four_fields p.0.0.1)
    ++ list_fields (held_check_fields version) p.0.1
    ++ where_spelled (spells_collections version) (list_fields held_collection_fields p.1))

abbrev pub fronts_at : (version : ℕ) → Reader Fronts
fronts_at version octets =
    in_turn (in_turn (in_turn (in_turn four_at four_at)
    (spelled_at (spells_collections version) 1 later_at))
    (list_at (numbered_check_at version)))
    (spelled_at (spells_collections version) [] (list_at numbered_collection_at)) octets

pub fronts_part : (version : ℕ) → Part (IsFront version) (fronts_octets version)
    (fronts_fields version) (fronts_at version)
fronts_part version =
    in_turn_part (in_turn_part (in_turn_part (in_turn_part number_part number_part)
    (told_part 1 later_part (spells_collections version)))
    (list_part (held_check_part version)))
    (told_part [] (list_part held_collection_part) (spells_collections version))

-- ---- snapshots

abbrev pub any_config_at : (version : ℕ) → Reader Config
any_config_at version octets =
    mapped configured (in_turn (fronts_at version) (list_at any_zone_at)) octets

abbrev fronts_of : Config → Fronts
fronts_of config = (
  (((config.next_zone, config.checks.next), config.collections.next), config.checks.list),
  config.collections.list,
)

abbrev IsBehind : (version : ℕ) → Config → Type 0
IsBehind version config =
    IsFront version (fronts_of config) × AreListable IsZoneInGrammar config.zones

abbrev octets_behind : (version : ℕ) → Config → List ℕ
octets_behind version config =
    fronts_octets version (fronts_of config) ++ list_octets zone_octets config.zones

abbrev fields_behind : (version : ℕ) → Config → List Field
fields_behind version config =
    fronts_fields version (fronts_of config) ++ list_fields zone_fields config.zones

config_part : (version : ℕ) → Part (IsBehind version) (octets_behind version)
    (fields_behind version) (any_config_at version)
config_part version =
    let inner = in_turn_part (fronts_part version) (list_part zone_part) in
    seen_part configured inner (λ p h. (h, refl, refl))
    (λ config h. ((fronts_of config, config.zones), h, refl))
    (λ config. inner.spells (fronts_of config, config.zones))

version_faults : Faults IsVersion (λ version. sized (version ∷ []) ∷ []) version_at
unfolding version_at
version_faults = tested_octet is_version 1 (inl refl) version_read

version_part : Part IsVersion (λ version. version ∷ []) (λ version. sized (version ∷ []) ∷ [])
    version_at
version_part = one_part (λ version. sized (version ∷ [])) (λ version. refl) version_read
    version_faults 1 (inl refl)

abbrev pub any_front_at : Reader (ℕ × Config)
any_front_at octets = in_turn_by version_at any_config_at octets

pub front_part : Part IsSnapshotInGrammar octets_of_snapshot fields_of any_front_at
front_part = alike_part
    (in_turn_by_part version_part (λ version. (config_part version).reads)
    (λ version. (config_part version).spells) (λ version h. (config_part version).told)
    (λ version h. let p = config_part version in (p.some, p.is_some)))
    (λ p h. record {
      known = h.0;
      next = h.1.0.0.0.1;
      checks = h.1.0.0.1;
      collections = h.1.0.1;
      zones = h.1.1;
    })
    (λ p h. (h.known, (((((tt, tt), h.next), h.checks), h.collections), h.zones)))
    (λ p. refl) (λ p. refl)
