-- The pieces in which a list of sets is written.
use Rattle.std.specs.Prelude.{ℕ, List, [], ◌∷◌, ◌++◌, Bool, true, false, codes, Option, None, Some}
use Rattle.dns_name.specs.Written as names
use Rattle.json.specs.Print.{quoted}
use Rattle.line_faults.specs.Texts.{text_of}
use Rattle.line_faults.specs.declared.member.Member.TheVariants as m
use Rattle.rdata_layout.specs.Types as types
use Rattle.rdata_layout.specs.declared.types.RType.{RType}
use Rattle.record_set.specs.Sets.{ident_of}
use Rattle.record_set.specs.declared.sets.RecordSet.{RecordSet}
use Rattle.record_set.specs.declared.sets.SetKey.{SetKey}
use Rattle.reply_words.specs.Json.{check_text, collection_text, count, field, name_text}
use Rattle.reply_words.specs.Json.{object_of, zone_text}
use Rattle.reply_words.specs.Sets.{place_fields, role_text, value_object}
use Rattle.routing.specs.declared.policies.Routing.{Routing}
use Rattle.routing.specs.declared.policies.Routing.TheVariants as routing
use Rattle.serde_json.specs.Data.{Data, boolean, string}
use Rattle.serde_json.specs.Written.{comma_if, compact_text}
use Rattle.set_scratch.specs.Bodies.{alias_of, ttl_of, wires_of}

-- ---- members of an object, as they stand in its text

-- a member that another one follows, where it is there
abbrev pub led : (name : List ℕ) → Option Data → List ℕ
led name None = []
led name (Some d) = quoted name ++ 58 ∷ (compact_text d ++ 44 ∷ [])

-- a member that follows another one, where it is there
abbrev pub trailed : (name : List ℕ) → Option Data → List ℕ
trailed name None = []
trailed name (Some d) = 44 ∷ (quoted name ++ 58 ∷ compact_text d)

-- ---- what a set may have

abbrev pub alias_object : (zone : ℕ) (target : List (List ℕ)) (evaluate : Bool) → Data
alias_object zone target evaluate = object_of (field m.DnsName (name_text target)
    ∷ field m.EvaluateTargetHealth (boolean evaluate)
    ∷ field m.HostedZoneId (zone_text zone) ∷ [])

abbrev pub alias_data : (zone : ℕ) → Option (List (List ℕ) × Bool) → Option Data
alias_data zone None = None
alias_data zone (Some alias) = Some (alias_object zone alias.0 alias.1)

abbrev pub check_data : Option ℕ → Option Data
check_data None = None
check_data (Some check) = Some (check_text check)

abbrev pub ident_data : Option (List ℕ) → Option Data
ident_data None = None
ident_data (Some ident) = Some (string ident)

-- an alias has no time to live of its own
abbrev pub ttl_data : Option (List (List ℕ) × Bool) → (ttl : ℕ) → Option Data
ttl_data None ttl = Some (count ttl)
ttl_data (Some alias) ttl = None

abbrev pub cidr_object : (collection : ℕ) (location : List ℕ) → Data
cidr_object collection location = object_of (field m.CollectionId (collection_text collection)
    ∷ field m.LocationName (string location) ∷ [])

abbrev pub cidr_data : Routing → Option Data
cidr_data routing.Simple = None
cidr_data (routing.Weighted ident weight) = None
cidr_data (routing.Failover ident role) = None
cidr_data (routing.Geolocation ident where_to) = None
cidr_data (routing.Latency ident region) = None
cidr_data (routing.Multivalue ident) = None
cidr_data (routing.Cidr ident collection location) = Some (cidr_object collection location)

abbrev pub failover_data : Routing → Option Data
failover_data routing.Simple = None
failover_data (routing.Weighted ident weight) = None
failover_data (routing.Failover ident role) = Some (string (role_text role))
failover_data (routing.Geolocation ident where_to) = None
failover_data (routing.Latency ident region) = None
failover_data (routing.Multivalue ident) = None
failover_data (routing.Cidr ident collection location) = None

abbrev pub place_data : Routing → Option Data
place_data routing.Simple = None
place_data (routing.Weighted ident weight) = None
place_data (routing.Failover ident role) = None
place_data (routing.Geolocation ident where_to) = Some (object_of (place_fields where_to))
place_data (routing.Latency ident region) = None
place_data (routing.Multivalue ident) = None
place_data (routing.Cidr ident collection location) = None

abbrev pub multivalue_data : Routing → Option Data
multivalue_data routing.Simple = None
multivalue_data (routing.Weighted ident weight) = None
multivalue_data (routing.Failover ident role) = None
multivalue_data (routing.Geolocation ident where_to) = None
multivalue_data (routing.Latency ident region) = None
multivalue_data (routing.Multivalue ident) = Some (boolean true)
multivalue_data (routing.Cidr ident collection location) = None

abbrev pub region_data : Routing → Option Data
region_data routing.Simple = None
region_data (routing.Weighted ident weight) = None
region_data (routing.Failover ident role) = None
region_data (routing.Geolocation ident where_to) = None
region_data (routing.Latency ident region) = Some (string region)
region_data (routing.Multivalue ident) = None
region_data (routing.Cidr ident collection location) = None

abbrev pub weight_data : Routing → Option Data
weight_data routing.Simple = None
weight_data (routing.Weighted ident weight) = Some (count weight)
weight_data (routing.Failover ident role) = None
weight_data (routing.Geolocation ident where_to) = None
weight_data (routing.Latency ident region) = None
weight_data (routing.Multivalue ident) = None
weight_data (routing.Cidr ident collection location) = None

-- ---- the pieces of a set: what stands before its values, each value, what stands behind them

-- the values' list is opened and closed; an alias has none
abbrev pub list_opening : Option (List (List ℕ) × Bool) → List ℕ
list_opening None = codes ",\"ResourceRecords\":["
list_opening (Some alias) = []

abbrev pub list_closing : Option (List (List ℕ) × Bool) → List ℕ
list_closing None = codes "]"
list_closing (Some alias) = []

abbrev pub early_policy : Routing → List ℕ
early_policy policy =
    led (text_of m.CidrRoutingConfig) (cidr_data policy)
    ++ (led (text_of m.Failover) (failover_data policy)
    ++ led (text_of m.GeoLocation) (place_data policy))

-- what stands before the values of a set
unfoldable pub front_text : (later : Bool) (zone : ℕ) (alias : Option (List (List ℕ) × Bool))
    → Routing → (check : Option ℕ) (name : List (List ℕ)) → List ℕ
front_text later zone alias policy check name =
    comma_if later ++ (123 ∷ (led (text_of m.AliasTarget) (alias_data zone alias)
    ++ (early_policy policy
    ++ (led (text_of m.HealthCheckId) (check_data check)
    ++ (led (text_of m.MultiValueAnswer) (multivalue_data policy)
    ++ (codes "\"Name\":" ++ (quoted (names.text_of name)
    ++ (trailed (text_of m.Region) (region_data policy)
    ++ list_opening alias))))))))

abbrev pub set_front : (later : Bool) (zone : ℕ) → RecordSet → List ℕ
set_front later zone set =
    front_text later zone (alias_of set.body) set.routing set.check set.name

unfoldable pub value_piece : (later : Bool) → RType → (wire : List ℕ) → List ℕ
value_piece later rtype wire =
    comma_if later ++ compact_text (value_object (record { rtype = rtype; wire = wire }))

-- what stands behind the values of a set
unfoldable pub rest_text : (alias : Option (List (List ℕ) × Bool)) → Routing → (ttl : ℕ) → RType
    → List ℕ
rest_text alias policy ttl rtype =
    list_closing alias
    ++ (trailed (text_of m.SetIdentifier) (ident_data (ident_of policy))
    ++ (trailed (text_of m.Ttl) (ttl_data alias ttl)
    ++ (codes ",\"Type\":" ++ (quoted (types.text_of rtype)
    ++ (trailed (text_of m.Weight) (weight_data policy) ++ codes "}")))))

abbrev pub set_rest : RecordSet → List ℕ
set_rest set = rest_text (alias_of set.body) set.routing (ttl_of set.body) set.rtype

abbrev pub value_pieces : (later : Bool) → RType → (wires : List (List ℕ)) → List ℕ
value_pieces later rtype [] = []
value_pieces later rtype (wire ∷ wires) =
    value_piece later rtype wire ++ value_pieces true rtype wires

-- all pieces of a set
abbrev pub set_pieces : (later : Bool) (zone : ℕ) → RecordSet → List ℕ
set_pieces later zone set =
    set_front later zone set ++ (value_pieces false set.rtype (wires_of set.body) ++ set_rest set)

-- ---- the pieces of a list: what stands before its sets, the sets, what stands behind them

abbrev pub list_front : (next : Option SetKey) → List ℕ
list_front None =
    codes "{\"IsTruncated\":false,\"Ok\":\"ListResourceRecordSets\",\"ResourceRecordSets\":["
list_front (Some next) =
    codes "{\"IsTruncated\":true," ++ (led (codes "NextRecordIdentifier") (ident_data next.ident)
    ++ (codes "\"NextRecordName\":" ++ (quoted (names.text_of next.name)
    ++ (codes ",\"NextRecordType\":" ++ (quoted (types.text_of next.rtype)
    ++ codes ",\"Ok\":\"ListResourceRecordSets\",\"ResourceRecordSets\":[")))))

abbrev pub list_rest : List ℕ
list_rest = codes "]}\n"

abbrev pub sets_pieces : (later : Bool) (zone : ℕ) → List RecordSet → List ℕ
sets_pieces later zone [] = []
sets_pieces later zone (set ∷ sets) = set_pieces later zone set ++ sets_pieces true zone sets

-- ---- the line of a set in a dump: what stands round the pieces of the set

abbrev pub set_line_front : List ℕ
set_line_front = codes "{\"ResourceRecordSet\":"

abbrev pub set_line_rest : List ℕ
set_line_rest = codes "}\n"
