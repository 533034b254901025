-- Policies by hand, each part of them, and what has no spelling.
use Rattle.std.proofs.Common.{◌≡◌, ℕ, List, [], ◌∷◌, refl, map, None}
use Rattle.record_set.specs.RTypeRecord.TheVariants as rtype
use Rattle.record_set.specs.ContinentRecord.TheVariants as continent
use Rattle.record_set.specs.PlaceRecord.TheVariants as place
use Rattle.record_set.specs.RoleRecord.TheVariants as role
use Rattle.record_set.specs.RoutingRecord.TheVariants as routing
use Rattle.record_set.specs.declared.sets.RecordSet.{RecordSet}
use Rattle.record_set.specs.declared.sets.Body.TheVariants as body
use Rattle.set_octets.specs.Octets.{place_octets, routing_octets, HasSpelling}

-- Africa, Antarctica, Asia, Europe, North America, Oceania, South America
pub continents :
    map (λ where_to. place_octets (place.Continent where_to))
    (continent.Af ∷ continent.An ∷ continent.As ∷ continent.Eu ∷ continent.Na ∷ continent.Oc
    ∷ continent.Sa ∷ [])
    ≡ (1 ∷ 1 ∷ []) ∷ (1 ∷ 2 ∷ []) ∷ (1 ∷ 3 ∷ []) ∷ (1 ∷ 4 ∷ []) ∷ (1 ∷ 5 ∷ []) ∷ (1 ∷ 6 ∷ [])
    ∷ (1 ∷ 7 ∷ []) ∷ []
continents = refl

-- US; US and CA; anywhere
pub places :
    map place_octets
    (place.Country (0x55 ∷ 0x53 ∷ []) ∷ place.Subdivision (0x55 ∷ 0x53 ∷ []) (0x43 ∷ 0x41 ∷ [])
    ∷ place.Anywhere ∷ [])
    ≡ (2 ∷ 0x55 ∷ 0x53 ∷ []) ∷ (3 ∷ 0x55 ∷ 0x53 ∷ 2 ∷ 0x43 ∷ 0x41 ∷ []) ∷ (4 ∷ []) ∷ []
places = refl

-- the identifier `x y`
abbrev ident : List ℕ
ident = 0x78 ∷ 0x20 ∷ 0x79 ∷ []

-- simple; weight 255; primary and secondary; anywhere; the region us-1; multivalue
pub policies :
    map routing_octets
    (routing.Simple
    ∷ routing.Weighted ident 255
    ∷ routing.Failover ident role.Primary
    ∷ routing.Failover ident role.Secondary
    ∷ routing.Geolocation ident place.Anywhere
    ∷ routing.Latency ident (0x75 ∷ 0x73 ∷ 0x2D ∷ 0x31 ∷ [])
    ∷ routing.Multivalue ident
    ∷ [])
    ≡ (0 ∷ [])
    ∷ (1 ∷ 3 ∷ 0x78 ∷ 0x20 ∷ 0x79 ∷ 255 ∷ [])
    ∷ (2 ∷ 3 ∷ 0x78 ∷ 0x20 ∷ 0x79 ∷ 1 ∷ [])
    ∷ (2 ∷ 3 ∷ 0x78 ∷ 0x20 ∷ 0x79 ∷ 2 ∷ [])
    ∷ (3 ∷ 3 ∷ 0x78 ∷ 0x20 ∷ 0x79 ∷ 4 ∷ [])
    ∷ (4 ∷ 3 ∷ 0x78 ∷ 0x20 ∷ 0x79 ∷ 4 ∷ 0x75 ∷ 0x73 ∷ 0x2D ∷ 0x31 ∷ [])
    ∷ (5 ∷ 3 ∷ 0x78 ∷ 0x20 ∷ 0x79 ∷ [])
    ∷ []
policies = refl

-- the location `lab` of the collection 0x01020304, and `*` of the collection 1
pub locations :
    map routing_octets (routing.Cidr ident 0x01020304 (0x6C ∷ 0x61 ∷ 0x62 ∷ [])
    ∷ routing.Cidr ident 1 (0x2A ∷ []) ∷ [])
    ≡ (6 ∷ 3 ∷ 0x78 ∷ 0x20 ∷ 0x79 ∷ 1 ∷ 2 ∷ 3 ∷ 4 ∷ 3 ∷ 0x6C ∷ 0x61 ∷ 0x62 ∷ [])
    ∷ (6 ∷ 3 ∷ 0x78 ∷ 0x20 ∷ 0x79 ∷ 0 ∷ 0 ∷ 0 ∷ 1 ∷ 1 ∷ 0x2A ∷ [])
    ∷ []
locations = refl

-- `a` of type A with the value of type TXT that is the string `abc`: the octets of that value don't
-- tell its type
abbrev other_type : RecordSet
other_type = record {
  name = (0x61 ∷ []) ∷ [];
  rtype = rtype.A;
  routing = routing.Simple;
  body = body.Values 300 (record { rtype = rtype.Txt; wire = 3 ∷ 0x61 ∷ 0x62 ∷ 0x63 ∷ [] } ∷ []);
  check = None;
}

pub values_of_another_type : HasSpelling other_type → ⊥
values_of_another_type has = let same : rtype.Txt ≡ rtype.A = has.of_type.0 in absurd cc
