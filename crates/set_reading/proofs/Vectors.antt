-- Sets by hand, and each kind of fault.
use Rattle.std.proofs.Common.{◌≡◌, ℕ, List, [], ◌∷◌, ◌++◌, take, map, refl, true, None, Some, Result, Ok, Err}
use Rattle.set_fields.specs.RTypeRecord.TheVariants as rtype
use Rattle.set_fields.specs.ContinentRecord.TheVariants as continent
use Rattle.set_fields.specs.PlaceRecord.TheVariants as place
use Rattle.set_fields.specs.RoleRecord.TheVariants as role
use Rattle.set_fields.specs.RoutingRecord.{Routing}
use Rattle.set_fields.specs.RoutingRecord.TheVariants as routing
use Rattle.set_fields.specs.RecordSetRecord.{RecordSet}
use Rattle.set_fields.specs.BodyRecord.TheVariants as body
use Rattle.set_fields.specs.Layouts.{is_layout}
use Rattle.set_fields.specs.Names.{name_at}
use Rattle.set_fields.specs.Octets.{set_octets}
use Rattle.set_fields.specs.Numbers.{type_of_number, type_at, continent_at, role_at, ttl_at}
use Rattle.set_fields.specs.Readers.{text_at}
use Rattle.set_fields.specs.Texts.{location_at, country_at}
use Rattle.set_reading.specs.Reading.{subdivision_at, place_at, weighted_at, failover_at, geolocation_at}
use Rattle.set_reading.specs.Reading.{latency_at, multivalue_at, cidr_at, routing_at, value_at, records_at}
use Rattle.set_reading.specs.Reading.{alias_at, body_at, check_at, set_at, by_place, read}

-- the name www.example.com on the wire
abbrev www : List ℕ
www = 3 ∷ 0x77 ∷ 0x77 ∷ 0x77 ∷ 7 ∷ 0x65 ∷ 0x78 ∷ 0x61 ∷ 0x6D ∷ 0x70 ∷ 0x6C ∷ 0x65 ∷ 3 ∷ 0x63 ∷ 0x6F
    ∷ 0x6D ∷ 0 ∷ []

-- its labels
abbrev labels : List (List ℕ)
labels = (0x77 ∷ 0x77 ∷ 0x77 ∷ []) ∷ (0x65 ∷ 0x78 ∷ 0x61 ∷ 0x6D ∷ 0x70 ∷ 0x6C ∷ 0x65 ∷ [])
    ∷ (0x63 ∷ 0x6F ∷ 0x6D ∷ []) ∷ []

-- www.example.com A 192.0.2.1, simple, with a time to live of 300
abbrev simple : RecordSet
simple = record {
  name = labels;
  rtype = rtype.A;
  routing = routing.Simple;
  body = body.Values 300 (record { rtype = rtype.A; wire = 192 ∷ 0 ∷ 2 ∷ 1 ∷ [] } ∷ []);
  check = None;
}

abbrev simple_octets : List ℕ
simple_octets = www ++ 0 ∷ 1 ∷ 0 ∷ 0 ∷ 0 ∷ 0 ∷ 1 ∷ 0x2C ∷ 0 ∷ 1 ∷ 0 ∷ 4 ∷ 192 ∷ 0 ∷ 2 ∷ 1 ∷ 0 ∷ []

pub simple_is_written : set_octets simple ≡ simple_octets
simple_is_written = refl

-- seven octets follow
pub simple_is_read : read (simple_octets ++ 1 ∷ 2 ∷ 3 ∷ 4 ∷ 5 ∷ 6 ∷ 7 ∷ []) ≡ Ok (simple, 34)
unfolding read set_at name_at type_at type_of_number routing_at weighted_at failover_at geolocation_at
    latency_at multivalue_at cidr_at location_at place_at subdivision_at country_at continent_at
    role_at text_at body_at records_at alias_at ttl_at value_at is_layout check_at
simple_is_read = refl

-- the name a on the wire, and of type AAAA
abbrev a_aaaa : List ℕ
a_aaaa = 1 ∷ 0x61 ∷ 0 ∷ 0 ∷ 28 ∷ []

-- a AAAA 2001:db8::1, weighted with the identifier `x` and the weight 10, with a time to live of
-- 2147483647 and check 7
abbrev weighted : RecordSet
weighted = record {
  name = (0x61 ∷ []) ∷ [];
  rtype = rtype.Aaaa;
  routing = routing.Weighted (0x78 ∷ []) 10;
  body = body.Values 2147483647 (record {
    rtype = rtype.Aaaa;
    wire = 0x20 ∷ 0x01 ∷ 0x0D ∷ 0xB8 ∷ 0 ∷ 0 ∷ 0
        ∷ 0 ∷ 0 ∷ 0 ∷ 0 ∷ 0 ∷ 0 ∷ 0 ∷ 0 ∷ 1 ∷ [];
  } ∷ []);
  check = Some 7;
}

abbrev weighted_octets : List ℕ
weighted_octets = a_aaaa ++ 1 ∷ 1 ∷ 0x78 ∷ 10 ∷ 0 ∷ 0x7F ∷ 0xFF ∷ 0xFF ∷ 0xFF ∷ 0 ∷ 1 ∷ 0 ∷ 16
    ∷ 0x20 ∷ 0x01
    ∷ 0x0D ∷ 0xB8 ∷ 0 ∷ 0 ∷ 0 ∷ 0 ∷ 0 ∷ 0 ∷ 0 ∷ 0 ∷ 0 ∷ 0 ∷ 0 ∷ 1 ∷ 1 ∷ 0 ∷ 0 ∷ 0 ∷ 7 ∷ []

pub weighted_is_written : set_octets weighted ≡ weighted_octets
weighted_is_written = refl

pub weighted_is_read : read weighted_octets ≡ Ok (weighted, 39)
unfolding read set_at name_at type_at type_of_number routing_at weighted_at failover_at geolocation_at
    latency_at multivalue_at cidr_at location_at place_at subdivision_at country_at continent_at
    role_at text_at body_at records_at alias_at ttl_at value_at is_layout check_at
weighted_is_read = refl

-- a TXT "hi" "", for California: the identifier `we`, the country US, the subdivision CA
abbrev geolocation : RecordSet
geolocation = record {
  name = (0x61 ∷ []) ∷ [];
  rtype = rtype.Txt;
  routing =
      routing.Geolocation (0x77 ∷ 0x65 ∷ [])
      (place.Subdivision (0x55 ∷ 0x53 ∷ []) (0x43 ∷ 0x41 ∷ []));
  body = body.Values 60 (record { rtype = rtype.Txt; wire = 2 ∷ 0x68 ∷ 0x69 ∷ 0 ∷ [] } ∷ []);
  check = None;
}

abbrev geolocation_octets : List ℕ
geolocation_octets = 1 ∷ 0x61 ∷ 0 ∷ 0 ∷ 16 ∷ 3 ∷ 2 ∷ 0x77 ∷ 0x65 ∷ 3 ∷ 0x55 ∷ 0x53 ∷ 2 ∷ 0x43 ∷ 0x41
    ∷ 0 ∷ 0
    ∷ 0 ∷ 0 ∷ 60 ∷ 0 ∷ 1 ∷ 0 ∷ 4 ∷ 2 ∷ 0x68 ∷ 0x69 ∷ 0 ∷ 0 ∷ []

pub geolocation_is_written : set_octets geolocation ≡ geolocation_octets
geolocation_is_written = refl

pub geolocation_is_read : read geolocation_octets ≡ Ok (geolocation, 29)
unfolding read set_at name_at type_at type_of_number routing_at weighted_at failover_at geolocation_at
    latency_at multivalue_at cidr_at location_at place_at subdivision_at country_at continent_at
    role_at text_at body_at records_at alias_at ttl_at value_at is_layout check_at
geolocation_is_read = refl

-- an alias for the root's MX sets: the identifier `1`, the region eu-west-1, the target b, whose
-- health counts
abbrev latency : RecordSet
latency = record {
  name = [];
  rtype = rtype.Mx;
  routing =
      routing.Latency (0x31 ∷ []) (0x65 ∷ 0x75 ∷ 0x2D ∷ 0x77 ∷ 0x65 ∷ 0x73 ∷ 0x74 ∷ 0x2D ∷ 0x31
      ∷ []);
  body = body.Alias ((0x62 ∷ []) ∷ []) true;
  check = None;
}

abbrev latency_octets : List ℕ
latency_octets = 0 ∷ 0 ∷ 15 ∷ 4 ∷ 1 ∷ 0x31 ∷ 9 ∷ 0x65 ∷ 0x75 ∷ 0x2D ∷ 0x77 ∷ 0x65 ∷ 0x73 ∷ 0x74
    ∷ 0x2D ∷ 0x31 ∷ 1 ∷ 1 ∷ 0x62 ∷ 0 ∷ 1 ∷ 0 ∷ []

pub latency_is_written : set_octets latency ≡ latency_octets
latency_is_written = refl

pub latency_is_read : read latency_octets ≡ Ok (latency, 22)
unfolding read set_at name_at type_at type_of_number routing_at weighted_at failover_at geolocation_at
    latency_at multivalue_at cidr_at location_at place_at subdivision_at country_at continent_at
    role_at text_at body_at records_at alias_at ttl_at value_at is_layout check_at
latency_is_read = refl

abbrev places : List (List ℕ) → List (Result (RecordSet × ℕ) ℕ)
places octets = map read octets

-- names: nothing at all, a label that is cut off, a capital letter, a pointer, and a capital letter
-- in a label that is cut off
pub faults_in_names : places ([] ∷ take 5 www ∷ (1 ∷ 0x41 ∷ 0 ∷ []) ∷ (1 ∷ 0x61 ∷ 0xC0 ∷ 12 ∷ [])
    ∷ (3 ∷ 0x61 ∷ 0x41 ∷ []) ∷ []) ≡ Err 0 ∷ Err 5 ∷ Err 0 ∷ Err 0 ∷ Err 0 ∷ []
unfolding read set_at name_at type_at type_of_number routing_at weighted_at failover_at geolocation_at
    latency_at multivalue_at cidr_at location_at place_at subdivision_at country_at continent_at
    role_at text_at body_at records_at alias_at ttl_at value_at is_layout check_at
faults_in_names = refl

-- www.example.com and the type A; 19 octets
abbrev www_a : List ℕ
www_a = www ++ 0 ∷ 1 ∷ []

-- types: one octet, and the type 0; policies: none, and kind 7
pub faults_in_types : places ((www ++ 0 ∷ []) ∷ (www ++ 0 ∷ 0 ∷ 0 ∷ []) ∷ www_a
    ∷ (www_a ++ 7 ∷ 0 ∷ []) ∷ []) ≡ Err 18 ∷ Err 17 ∷ Err 19 ∷ Err 19 ∷ []
unfolding read set_at name_at type_at type_of_number routing_at weighted_at failover_at geolocation_at
    latency_at multivalue_at cidr_at location_at place_at subdivision_at country_at continent_at
    role_at text_at body_at records_at alias_at ttl_at value_at is_layout check_at
faults_in_types = refl

-- identifiers: of length 0, of length 129, with an octet 0x1F and cut off, cut off; a role 3, and
-- none
pub faults_in_identifiers : places ((www_a ++ 1 ∷ 0 ∷ []) ∷ (www_a ++ 1 ∷ 129 ∷ [])
    ∷ (www_a ++ 1 ∷ 9 ∷ 0x1F ∷ []) ∷ (www_a ++ 1 ∷ 9 ∷ 0x20 ∷ []) ∷ (www_a ++ 2 ∷ 1 ∷ 0x20 ∷ 3 ∷ [])
    ∷ (www_a ++ 2 ∷ 1 ∷ 0x20 ∷ []) ∷ [])
    ≡ Err 20 ∷ Err 20 ∷ Err 20 ∷ Err 22 ∷ Err 22 ∷ Err 22 ∷ []
unfolding read set_at name_at type_at type_of_number routing_at weighted_at failover_at geolocation_at
    latency_at multivalue_at cidr_at location_at place_at subdivision_at country_at continent_at
    role_at text_at body_at records_at alias_at ttl_at value_at is_layout check_at
faults_in_identifiers = refl

-- www.example.com A, geolocation with the identifier `i`; 22 octets
abbrev geo : List ℕ
geo = www_a ++ 3 ∷ 1 ∷ 0x69 ∷ []

-- places: kind 0, kind 5, continent 0, continent 8, small letters, one letter, a subdivision of 4
-- bytes, one with a small letter
pub faults_in_places : places ((geo ++ 0 ∷ []) ∷ (geo ++ 5 ∷ []) ∷ (geo ++ 1 ∷ 0 ∷ [])
    ∷ (geo ++ 1 ∷ 8 ∷ [])
    ∷ (geo ++ 2 ∷ 0x75 ∷ 0x73 ∷ []) ∷ (geo ++ 2 ∷ 0x55 ∷ []) ∷ (geo ++ 3 ∷ 0x55 ∷ 0x53 ∷ 4 ∷ [])
    ∷ (geo ++ 3 ∷ 0x55 ∷ 0x53 ∷ 2 ∷ 0x63 ∷ []) ∷ [])
    ≡ Err 22 ∷ Err 22 ∷ Err 23 ∷ Err 23 ∷ Err 23 ∷ Err 24 ∷ Err 25 ∷ Err 25 ∷ []
unfolding read set_at name_at type_at type_of_number routing_at weighted_at failover_at geolocation_at
    latency_at multivalue_at cidr_at location_at place_at subdivision_at country_at continent_at
    role_at text_at body_at records_at alias_at ttl_at value_at is_layout check_at
faults_in_places = refl

-- each policy by hand: what stands behind its kind, with an octet that follows
abbrev read_policies : List (List ℕ) → List (Result (Routing × List ℕ) ℕ)
read_policies octets = map (λ rest. routing_at (rest ++ 9 ∷ [])) octets

pub policies :
    read_policies
    ((0 ∷ [])
    ∷ (1 ∷ 1 ∷ 0x69 ∷ 255 ∷ [])
    ∷ (2 ∷ 1 ∷ 0x69 ∷ 1 ∷ [])
    ∷ (2 ∷ 1 ∷ 0x69 ∷ 2 ∷ [])
    ∷ (4 ∷ 1 ∷ 0x69 ∷ 4 ∷ 0x75 ∷ 0x73 ∷ 0x2D ∷ 0x31 ∷ [])
    ∷ (5 ∷ 1 ∷ 0x69 ∷ [])
    ∷ (6 ∷ 1 ∷ 0x69 ∷ 1 ∷ 2 ∷ 3 ∷ 4 ∷ 3 ∷ 0x6C ∷ 0x61 ∷ 0x62 ∷ [])
    ∷ (6 ∷ 1 ∷ 0x69 ∷ 0 ∷ 0 ∷ 0 ∷ 1 ∷ 1 ∷ 0x2A ∷ [])
    ∷ [])
    ≡ map (λ policy. Ok (policy, 9 ∷ []))
    (routing.Simple
    ∷ routing.Weighted (0x69 ∷ []) 255
    ∷ routing.Failover (0x69 ∷ []) role.Primary
    ∷ routing.Failover (0x69 ∷ []) role.Secondary
    ∷ routing.Latency (0x69 ∷ []) (0x75 ∷ 0x73 ∷ 0x2D ∷ 0x31 ∷ [])
    ∷ routing.Multivalue (0x69 ∷ [])
    ∷ routing.Cidr (0x69 ∷ []) 0x01020304 (0x6C ∷ 0x61 ∷ 0x62 ∷ [])
    ∷ routing.Cidr (0x69 ∷ []) 1 (0x2A ∷ [])
    ∷ [])
unfolding routing_at weighted_at failover_at latency_at multivalue_at cidr_at location_at role_at
    text_at
policies = refl

-- the continents from Africa to South America; US; US and CA; anywhere
pub kinds_of_places :
    read_policies
    (map (λ where_to. 3 ∷ 1 ∷ 0x69 ∷ where_to)
    ((1 ∷ 1 ∷ []) ∷ (1 ∷ 2 ∷ []) ∷ (1 ∷ 3 ∷ []) ∷ (1 ∷ 4 ∷ []) ∷ (1 ∷ 5 ∷ []) ∷ (1 ∷ 6 ∷ [])
    ∷ (1 ∷ 7 ∷ [])
    ∷ (2 ∷ 0x55 ∷ 0x53 ∷ []) ∷ (3 ∷ 0x55 ∷ 0x53 ∷ 2 ∷ 0x43 ∷ 0x41 ∷ []) ∷ (4 ∷ []) ∷ []))
    ≡ map (λ where_to. Ok (routing.Geolocation (0x69 ∷ []) where_to, 9 ∷ []))
    (map (λ where_to. place.Continent where_to)
    (continent.Af ∷ continent.An ∷ continent.As ∷ continent.Eu ∷ continent.Na ∷ continent.Oc
    ∷ continent.Sa ∷ [])
    ++ place.Country (0x55 ∷ 0x53 ∷ []) ∷ place.Subdivision (0x55 ∷ 0x53 ∷ []) (0x43 ∷ 0x41 ∷ [])
    ∷ place.Anywhere ∷ [])
unfolding routing_at geolocation_at place_at subdivision_at country_at continent_at text_at
kinds_of_places = refl

-- www.example.com A, IP-based with the identifier `i`; 22 octets
abbrev cidr : List ℕ
cidr = www_a ++ 6 ∷ 1 ∷ 0x69 ∷ []

-- the collection cut off; locations: of length 0, of length 17, `**` cut off, `.`, one cut off,
-- none; and a body of kind 2 behind `*`
pub faults_in_locations :
    places
    ((cidr ++ 0 ∷ 0 ∷ 0 ∷ [])
    ∷ map (λ location. cidr ++ 0 ∷ 0 ∷ 0 ∷ 1 ∷ location)
    ((0 ∷ []) ∷ (17 ∷ []) ∷ (2 ∷ 0x2A ∷ []) ∷ (1 ∷ 0x2E ∷ []) ∷ (3 ∷ 0x61 ∷ []) ∷ []
    ∷ (1 ∷ 0x2A ∷ 2 ∷ []) ∷ []))
    ≡ Err 25 ∷ Err 26 ∷ Err 26 ∷ Err 26 ∷ Err 26 ∷ Err 28 ∷ Err 26 ∷ Err 28 ∷ []
unfolding read set_at name_at type_at type_of_number routing_at weighted_at failover_at geolocation_at
    latency_at multivalue_at cidr_at location_at place_at subdivision_at country_at continent_at
    role_at text_at body_at records_at alias_at ttl_at value_at is_layout check_at
faults_in_locations = refl

-- what is answered: kind 2, a time to live of 2^31, no count, a value that is cut off, three octets
-- for an A value, none for
-- one; an alias whose flag is 2
pub faults_in_answers : places ((www_a ++ 0 ∷ 2 ∷ []) ∷ (www_a ++ 0 ∷ 0 ∷ 0x80 ∷ 0 ∷ 0 ∷ 0 ∷ [])
    ∷ (www_a ++ 0 ∷ 0 ∷ 0 ∷ 0 ∷ 0 ∷ 0 ∷ 0 ∷ []) ∷
    (www_a ++ 0 ∷ 0 ∷ 0 ∷ 0 ∷ 0 ∷ 0 ∷ 0 ∷ 1 ∷ 0 ∷ 4 ∷ 1 ∷ 2 ∷ 3 ∷ [])
    ∷ (www_a ++ 0 ∷ 0 ∷ 0 ∷ 0 ∷ 0 ∷ 0 ∷ 0 ∷ 1 ∷ 0 ∷ 3 ∷ 1 ∷ 2 ∷ 3 ∷ 0 ∷ [])
    ∷ (www_a ++ 0 ∷ 0 ∷ 0 ∷ 0 ∷ 0 ∷ 0 ∷ 0 ∷ 1 ∷ 0 ∷ 0 ∷ []) ∷ (www_a ++ 0 ∷ 1 ∷ 0 ∷ 2 ∷ []) ∷ [])
    ≡ Err 20 ∷ Err 21 ∷ Err 26 ∷ Err 32 ∷ Err 29 ∷ Err 29 ∷ Err 22 ∷ []
unfolding read set_at name_at type_at type_of_number routing_at weighted_at failover_at geolocation_at
    latency_at multivalue_at cidr_at location_at place_at subdivision_at country_at continent_at
    role_at text_at body_at records_at alias_at ttl_at value_at is_layout check_at
faults_in_answers = refl

-- checks: no flag, a flag of 2, a number of three octets
pub faults_in_checks : places (take 33 simple_octets ∷ (take 33 simple_octets ++ 2 ∷ [])
    ∷ (take 33 simple_octets ++ 1 ∷ 0 ∷ 0 ∷ 0 ∷ []) ∷ []) ≡ Err 33 ∷ Err 33 ∷ Err 37 ∷ []
unfolding read set_at name_at type_at type_of_number routing_at weighted_at failover_at geolocation_at
    latency_at multivalue_at cidr_at location_at place_at subdivision_at country_at continent_at
    role_at text_at body_at records_at alias_at ttl_at value_at is_layout check_at
faults_in_checks = refl

-- no values at all are in the grammar
pub no_values : read (1 ∷ 0x61 ∷ 0 ∷ 0 ∷ 1 ∷ 0 ∷ 0 ∷ 0 ∷ 0 ∷ 0 ∷ 0 ∷ 0 ∷ 0 ∷ 0 ∷ [])
    ≡ Ok (
      record {
        name = (0x61 ∷ [])
            ∷ [];
        rtype = rtype.A;
        routing = routing.Simple;
        body = body.Values 0 [];
        check = None;
      },
      14,
    )
unfolding read set_at name_at type_at type_of_number routing_at weighted_at failover_at geolocation_at
    latency_at multivalue_at cidr_at location_at place_at subdivision_at country_at continent_at
    role_at text_at body_at records_at alias_at ttl_at value_at is_layout check_at
no_values = refl

-- sets of 65,536 and of 65,537 octets
pub longest : (by_place 65536 (Ok (simple, [])) ≡ Ok (simple, 65536))
    × (by_place 65537 (Ok (simple, [])) ≡ Err 0)
longest = (refl, refl)
