-- A record set as replies have it (API Reference, ResourceRecordSet): values in kept order, the
-- default place as country `*`.
use Rattle.std.specs.Prelude.{ℕ, List, [], ◌∷◌, ◌++◌, map, true, codes, Option, None, Some}
use Rattle.serde_json.specs.Data.{Data, boolean, string}
use Rattle.line_faults.specs.declared.member.Member.TheVariants as m
use Rattle.line_words.specs.Words.{code_of}
use Rattle.config_model.specs.Datum.{Datum}
use Rattle.config_model.specs.Written.{text_of}
use Rattle.config_model.specs.Sets.{ident_of}
use Rattle.config_model.specs.BodyRecord.{Body}
use Rattle.config_model.specs.BodyRecord.TheVariants.{Values, Alias}
use Rattle.config_model.specs.RecordSetRecord.{RecordSet}
use Rattle.routing.specs.declared.policies.Place.{Place}
use Rattle.routing.specs.declared.policies.Place.TheVariants as place
use Rattle.routing.specs.declared.policies.Role.{Role}
use Rattle.routing.specs.declared.policies.Role.TheVariants as role
use Rattle.routing.specs.declared.policies.Routing.{Routing}
use Rattle.routing.specs.declared.policies.Routing.TheVariants as routing
use Rattle.reply_model.specs.Json.{NamedValue, check_text, collection_text, count, field, list_of}
use Rattle.reply_model.specs.Json.{name_text, object_of, type_text, zone_text}

-- ---- policies

abbrev pub role_text : Role → List ℕ
role_text role.Primary = codes "PRIMARY"
role_text role.Secondary = codes "SECONDARY"

abbrev pub place_fields : Place → List NamedValue
place_fields (place.Continent continent) =
    field m.ContinentCode (string (code_of continent)) ∷ []
place_fields (place.Country letters) = field m.CountryCode (string letters) ∷ []
place_fields (place.Subdivision letters part) =
    field m.CountryCode (string letters) ∷ field m.SubdivisionCode (string part) ∷ []
place_fields place.Anywhere = field m.CountryCode (string (codes "*")) ∷ []

abbrev pub policy_fields : Routing → List NamedValue
policy_fields routing.Simple = []
policy_fields (routing.Weighted ident weight) = field m.Weight (count weight) ∷ []
policy_fields (routing.Failover ident part) = field m.Failover (string (role_text part)) ∷ []
policy_fields (routing.Geolocation ident where_to) =
    field m.GeoLocation (object_of (place_fields where_to)) ∷ []
policy_fields (routing.Latency ident region) = field m.Region (string region) ∷ []
policy_fields (routing.Multivalue ident) = field m.MultiValueAnswer (boolean true) ∷ []
policy_fields (routing.Cidr ident collection location) =
    field m.CidrRoutingConfig (object_of (field m.CollectionId (collection_text collection)
    ∷ field m.LocationName (string location) ∷ [])) ∷ []

-- ---- what is there or not

abbrev pub ident_fields : Option (List ℕ) → List NamedValue
ident_fields None = []
ident_fields (Some ident) = field m.SetIdentifier (string ident) ∷ []

abbrev pub check_fields : Option ℕ → List NamedValue
check_fields None = []
check_fields (Some check) = field m.HealthCheckId (check_text check) ∷ []

-- ---- values, or an alias

abbrev pub value_object : Datum → Data
value_object value = object_of (field m.Value (string (text_of value.rtype value.wire)) ∷ [])

-- A target stands in the zone itself.
abbrev pub body_fields : (zone : ℕ) → Body → List NamedValue
body_fields zone (Values ttl values) =
    field m.Ttl (count ttl) ∷ field m.ResourceRecords (list_of (map value_object values)) ∷ []
body_fields zone (Alias target evaluate) =
    field m.AliasTarget (object_of (field m.DnsName (name_text target)
    ∷ field m.EvaluateTargetHealth (boolean evaluate)
    ∷ field m.HostedZoneId (zone_text zone) ∷ [])) ∷ []

-- ---- a set of the zone of this number

abbrev pub set_object : (zone : ℕ) → RecordSet → Data
set_object zone set = object_of (
    field m.Name (name_text set.name)
    ∷ field m.«Type» (type_text set.rtype)
    ∷ (body_fields zone set.body
    ++ (ident_fields (ident_of set.routing)
    ++ (policy_fields set.routing ++ check_fields set.check))))
