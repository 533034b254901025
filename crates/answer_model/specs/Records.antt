-- The records of sets (RFC 1034, 3.6).
use Rattle.std.specs.Prelude.{ℕ, ◌-◌, List, [], ◌∷◌, ◌++◌, map, length, min, not, Bool, true, false}
use Rattle.std.specs.List.{filter, flat_map, list_any}
use Rattle.std.specs.Str.{bytes_eq}
use Rattle.dns_wire.specs.Message.{Record}
use Rattle.octets.specs.Numbers.{long_at}
use Rattle.zone_model.specs.Datum.{Datum}
use Rattle.zone_model.specs.RTypeRecord.{RType}
use Rattle.zone_model.specs.RTypeRecord.TheVariants as rtype
use Rattle.zone_model.specs.BodyRecord.{Body}
use Rattle.zone_model.specs.BodyRecord.TheVariants as body
use Rattle.zone_model.specs.RecordSetRecord.{RecordSet}
use Rattle.routing.specs.declared.policies.Routing.{Routing}
use Rattle.routing.specs.declared.policies.Routing.TheVariants as routing
use Rattle.zone_model.specs.Zones.{group}
use Rattle.zone_model.specs.Hosted.{HostedZone}

-- records of a name with these data
abbrev pub records : (owner : List (List ℕ)) → RType → (ttl : ℕ) → (rdatas : List (List ℕ))
    → List Record
records owner rtype ttl rdatas =
    map (λ rdata. record { owner = owner; rtype = rtype; ttl = ttl; rdata = rdata }) rdatas

-- the TTL and the data of a set, in kept order; an alias has none
abbrev pub ttl_of : Body → ℕ
ttl_of (body.Values ttl values) = ttl
ttl_of (body.Alias target evaluate) = 0

abbrev pub data_of : Body → List (List ℕ)
data_of (body.Values ttl values) = map (λ (value : Datum). value.wire) values
data_of (body.Alias target evaluate) = []

-- the records of a set as it stands
abbrev pub set_records : RecordSet → List Record
set_records set = records set.name set.rtype (ttl_of set.body) (data_of set.body)

-- ---- the answer of chosen sets

-- the least TTL of some sets
abbrev pub least_ttl : (set : RecordSet) → (others : List RecordSet) → ℕ
least_ttl set [] = ttl_of set.body
least_ttl set (next ∷ others) = min (ttl_of set.body) (least_ttl next others)

-- one of these data is the same
abbrev pub is_among : (before : List (List ℕ)) → List ℕ → Bool
is_among before rdata = list_any (bytes_eq rdata) before

-- The data of sets one after another. Those that a set before had are left out.
abbrev pub joint_data : (before : List (List ℕ)) → List RecordSet → List (List ℕ)
joint_data before [] = []
joint_data before (set ∷ sets) =
    filter (λ rdata. not (is_among before rdata)) (data_of set.body)
    ++ joint_data (before ++ data_of set.body) sets

-- The records with which chosen sets answer a name: their data, with the TTL of the set, or the
-- least one of several (own).
abbrev pub answer_records : (owner : List (List ℕ)) → List RecordSet → List Record
answer_records owner [] = []
answer_records owner (set ∷ others) =
    records owner set.rtype (least_ttl set others) (joint_data [] (set ∷ others))

-- ---- the zone's start of authority in a negative answer

-- MINIMUM: the last four octets of a SOA record's data (RFC 1035, 3.3.13)
abbrev pub minimum_of : (rdata : List ℕ) → ℕ
minimum_of rdata = long_at rdata (length rdata - 4)

-- The apex SOA, with the lesser of its TTL and MINIMUM (RFC 2308, 3).
abbrev pub soa_record : (apex : List (List ℕ)) → (ttl : ℕ) → (rdata : List ℕ) → Record
soa_record apex ttl rdata = record {
  owner = apex;
  rtype = rtype.Soa;
  ttl = min ttl (minimum_of rdata);
  rdata = rdata;
}

abbrev pub soa_records : HostedZone → List Record
soa_records zone = flat_map (λ (set : RecordSet).
    map (soa_record zone.apex (ttl_of set.body)) (data_of set.body))
    (group zone.sets zone.apex rtype.Soa)

-- ---- glue

abbrev pub is_simple : Routing → Bool
is_simple routing.Simple = true
is_simple other = false

-- the records of the simple set of a name and type
abbrev pub simple_records : List RecordSet → (name : List (List ℕ)) → RType → List Record
simple_records sets name rtype =
    flat_map set_records
    (filter (λ (set : RecordSet). is_simple set.routing) (group sets name rtype))

-- the addresses of a name server: A, then AAAA (RFC 1034, 4.2.1 and 4.3.2, step 3b; RFC 3596, 3)
abbrev pub glue_of : List RecordSet → (server : List (List ℕ)) → List Record
glue_of sets server = simple_records sets server rtype.A ++ simple_records sets server rtype.Aaaa
