-- The lines of a dump: health checks, collections, zones and sets, each an object of one member
-- (own).
use Rattle.std.specs.Prelude.{ℕ, List, [], ◌∷◌, ◌++◌, codes, decimal, map}
use Rattle.std.specs.Net.Text.{ipv4_text}
use Rattle.address_text.specs.Spelling.{colon_hex}
use Rattle.address_text.specs.declared.address.IpAddress.{IpAddress}
use Rattle.address_text.specs.declared.address.IpAddress.TheVariants as ip
use Rattle.check_model.specs.declared.checks.Check.{Check}
use Rattle.check_model.specs.declared.checks.Check.TheVariants as check
use Rattle.config_model.specs.CidrLocationRecord.{CidrLocation}
use Rattle.config_model.specs.CollectionRecord.{Collection}
use Rattle.ip_table.specs.Prefixes.{Prefix}
use Rattle.line_faults.specs.declared.member.Member.TheVariants as m
use Rattle.config_model.specs.RecordSetRecord.{RecordSet}
use Rattle.reply_model.specs.Json.{check_text, collection_text, count, field, line_of, list_of}
use Rattle.reply_model.specs.Json.{name_text, object_of, zone_text}
use Rattle.reply_model.specs.Sets.{set_object}
use Rattle.serde_json.specs.Data.{Data, boolean, string}

-- an object of one member
abbrev pub alone : (name : List ℕ) → Data → Data
alone name d = object_of ((name, d) ∷ [])

-- ---- health checks

abbrev pub check_object : (id : ℕ) → Check → Data
check_object id (check.Endpoint threshold inverted disabled) = object_of (
    field m.Disabled (boolean disabled)
    ∷ field m.FailureThreshold (count threshold)
    ∷ field m.Id (check_text id)
    ∷ field m.Inverted (boolean inverted)
    ∷ field m.«Type» (string (codes "ENDPOINT")) ∷ [])
check_object id (check.Calculated threshold inverted disabled children) = object_of (
    field m.ChildHealthChecks (list_of (map check_text children))
    ∷ field m.Disabled (boolean disabled)
    ∷ field m.HealthThreshold (count threshold)
    ∷ field m.Id (check_text id)
    ∷ field m.Inverted (boolean inverted)
    ∷ field m.«Type» (string (codes "CALCULATED")) ∷ [])

unfoldable pub check_line : (id : ℕ) → Check → List ℕ
check_line id check = line_of (alone (codes "HealthCheck") (check_object id check))

-- ---- collections

abbrev pub address_text : IpAddress → List ℕ
address_text (ip.V4 octets) = ipv4_text octets
address_text (ip.V6 octets) = colon_hex octets

abbrev pub block_text : Prefix → Data
block_text block = string (address_text block.address ++ 0x2F ∷ decimal block.length)

abbrev pub location_object : CidrLocation → Data
location_object location = object_of (
    field m.CidrList (list_of (map block_text location.blocks))
    ∷ field m.LocationName (string location.name) ∷ [])

abbrev pub collection_object : (id : ℕ) → Collection → Data
collection_object id collection = object_of (
    field m.Id (collection_text id)
    ∷ (codes "Locations", list_of (map location_object collection.locations))
    ∷ field m.Name (string collection.name) ∷ [])

unfoldable pub collection_line : (id : ℕ) → Collection → List ℕ
collection_line id collection =
    line_of (alone (codes "CidrCollection") (collection_object id collection))

-- ---- zones and their sets

abbrev pub zone_object : (id : ℕ) (name : List (List ℕ)) → Data
zone_object id name = object_of (field m.Id (zone_text id) ∷ field m.Name (name_text name) ∷ [])

unfoldable pub zone_line : (id : ℕ) (name : List (List ℕ)) → List ℕ
zone_line id name = line_of (alone (codes "HostedZone") (zone_object id name))

unfoldable pub set_line : (zone : ℕ) → RecordSet → List ℕ
set_line zone set = line_of (alone (codes "ResourceRecordSet") (set_object zone set))
