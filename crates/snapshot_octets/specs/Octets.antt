-- The octets of a configuration as a snapshot, in each of the three versions (FORMATS, Octets of
-- snapshots).
use Rattle.std.specs.Prelude.{◌≡◌, ◌≤◌, ◌⊎◌, ℕ, List, [], ◌∷◌, ◌++◌, length, Bool, true, false}
use Rattle.std.specs.Prelude.{nat_lt, if◌then◌else◌}
use Rattle.std.specs.List.{AllByRecursion, flat_map}
use Rattle.octets.specs.Numbers.{four_octets}
use Rattle.dns_name.specs.Labels.{wire}
use Rattle.dns_name.specs.Names.{IsName}
use Rattle.config_model.specs.RulesOfOctetReading.{AreListable, list_octets, text_octets}
use Rattle.routing.specs.Texts.{IsLocationName}
use Rattle.config_model.specs.Octets.{block_octets}
use Rattle.check_model.specs.declared.checks.Check.{Check}
use Rattle.config_model.specs.OctetsOfCheckOctets.{check_octets, where_spelled, IsSpelledCheck}
use Rattle.config_model.specs.Idents.{IsCollectionName}
use Rattle.config_model.specs.CidrLocationRecord.{CidrLocation}
use Rattle.config_model.specs.CollectionRecord.{Collection}
use Rattle.config_model.specs.Configs.{Config}
use Rattle.config_model.specs.Prefixes.{IsPrefix, Prefix}
use Rattle.config_model.specs.RecordSetRecord.{RecordSet}
use Rattle.config_model.specs.OctetsOfSetOctets.{set_octets}
use Rattle.config_model.specs.OctetsOfSetOctets as sets
use Rattle.config_model.specs.SetsOfSetReading.{IsSet}
use Rattle.config_model.specs.Hosted.{HostedZone}

-- The versions. The first says nothing of disabled checks, the first two nothing of collections.
abbrev pub IsVersion : ℕ → Type 0
IsVersion version = (version ≡ 1) ⊎ (version ≡ 2) ⊎ (version ≡ 3)

-- Collections are told in the third version.
abbrev pub spells_collections : (version : ℕ) → Bool
spells_collections version = nat_lt 2 version

-- a check behind its number
abbrev pub numbered_check_octets : (version : ℕ) → ℕ × Check → List ℕ
numbered_check_octets version held = four_octets held.0 ++ check_octets version held.1

-- a location: its name, and its blocks
abbrev pub location_octets : CidrLocation → List ℕ
location_octets location = text_octets location.name ++ list_octets block_octets location.blocks

-- a collection: its name, and its locations; it stands behind its number
abbrev pub collection_octets : Collection → List ℕ
collection_octets collection =
    text_octets collection.name ++ list_octets location_octets collection.locations

abbrev pub held_collection_octets : ℕ × Collection → List ℕ
held_collection_octets held = four_octets held.0 ++ collection_octets held.1

-- a list that may be long: how many there are, in four octets, and these
abbrev pub counted_octets : {A : Type 0} → (A → List ℕ) → List A → List ℕ
counted_octets octets_of xs = four_octets (length xs) ++ flat_map octets_of xs

-- a zone: its number, its name, how many sets it has, and these
abbrev pub zone_octets : HostedZone → List ℕ
zone_octets zone =
    four_octets zone.id ++ wire zone.apex ++ counted_octets set_octets zone.sets

-- The version; the next numbers of zones, of checks and, where they are told, of collections; the
-- checks, the collections where they are told, and the zones.
abbrev pub snapshot_octets : (version : ℕ) → Config → List ℕ
snapshot_octets version config =
    version ∷ (four_octets config.next_zone ++ four_octets config.checks.next
    ++ where_spelled (spells_collections version) (four_octets config.collections.next)
    ++ list_octets (numbered_check_octets version) config.checks.list
    ++ where_spelled (spells_collections version)
    (list_octets held_collection_octets config.collections.list)
    ++ list_octets zone_octets config.zones)

-- The version that is written: the third where there ever was a collection, else the second.
abbrev pub version_of : Config → ℕ
version_of config = if nat_lt 1 config.collections.next then 3 else 2

-- a configuration as it is written
abbrev pub snapshot : Config → List ℕ
snapshot config = snapshot_octets (version_of config) config

-- ---- which configurations have a snapshot in a version

-- where it is told it is so; where it isn't, nothing is there
abbrev pub IsWhereSpelled : {A : Type 0} → (told : Bool) (left : A) → (A → Type 0) → A → Type 0
IsWhereSpelled true left is x = is x
IsWhereSpelled false left is x = x ≡ left

abbrev pub IsHeldCheck : (version : ℕ) → ℕ × Check → Type 0
IsHeldCheck version held = IsSpelledCheck version held.1

abbrev pub IsPrefixed : Prefix → Type 0
IsPrefixed block = IsPrefix block.address block.length

pub record IsSpelledLocation (location : CidrLocation) : Type 0 where
  pub name : IsLocationName location.name
  pub blocks : AreListable IsPrefixed location.blocks

pub record IsSpelledCollection (collection : Collection) : Type 0 where
  pub name : IsCollectionName collection.name
  pub locations : AreListable IsSpelledLocation collection.locations

abbrev pub IsHeldCollection : ℕ × Collection → Type 0
IsHeldCollection held = IsSpelledCollection held.1

abbrev pub IsSpelledSet : RecordSet → Type 0
IsSpelledSet set = IsSet set × sets.HasSpelling set

pub record IsSpelledZone (zone : HostedZone) : Type 0 where
  pub name : IsName zone.apex
  pub sets : AllByRecursion IsSpelledSet zone.sets

-- In the first version no check is disabled; in the first two there are no collections, and there
-- never were; in the third there were.
pub record HasSnapshot (version : ℕ) (config : Config) : Type 0 where
  pub known : IsVersion version
  pub next : IsWhereSpelled (spells_collections version) 1 (λ next. 2 ≤ next) config.collections.next
  pub checks : AreListable (IsHeldCheck version) config.checks.list
  pub collections : IsWhereSpelled (spells_collections version) [] (AreListable IsHeldCollection)
      config.collections.list
  pub zones : AreListable IsSpelledZone config.zones

-- Octets are a snapshot of a configuration, in one of the versions.
pub record IsSnapshot (octets : List ℕ) (config : Config) : Type 0 where
  pub version : ℕ
  pub has : HasSnapshot version config
  pub spelled : octets ≡ snapshot_octets version config
