-- What the parts of a set are.
use Rattle.std.specs.Prelude.{◌≡◌, ℕ, List, ◌++◌, length, ⊤}
use Rattle.std.specs.List.{AllByRecursion}
use Rattle.set_fields.specs.NamesOfDnsName.{IsName}
use Rattle.set_fields.specs.Values.{IsInLayout}
use Rattle.set_fields.specs.TextsOfRouting.{IsIdent, IsRegion, IsSubdivision}
use Rattle.set_fields.specs.PlaceRecord.{Place}
use Rattle.set_fields.specs.PlaceRecord.TheVariants as place
use Rattle.set_fields.specs.RoutingRecord.{Routing}
use Rattle.set_fields.specs.RoutingRecord.TheVariants as routing
use Rattle.set_fields.specs.RecordSetRecord.{RecordSet}
use Rattle.set_fields.specs.BodyRecord.{Body}
use Rattle.set_fields.specs.BodyRecord.TheVariants as body
use Rattle.set_fields.specs.Octets.{set_octets, HasSpelling}

-- the codes of places
abbrev pub IsPlace : Place → Type 0
IsPlace (place.Continent where_to) = ⊤
IsPlace (place.Country letters) = length letters ≡ 2
IsPlace (place.Subdivision letters part) = (length letters ≡ 2) × IsSubdivision part
IsPlace place.Anywhere = ⊤

-- the identifiers, regions and places of policies
abbrev pub IsRouting : Routing → Type 0
IsRouting routing.Simple = ⊤
IsRouting (routing.Weighted ident weight) = IsIdent ident
IsRouting (routing.Failover ident part) = IsIdent ident
IsRouting (routing.Geolocation ident where_to) = IsIdent ident × IsPlace where_to
IsRouting (routing.Latency ident region) = IsIdent ident × IsRegion region
IsRouting (routing.Multivalue ident) = IsIdent ident
IsRouting (routing.Cidr ident collection location) = IsIdent ident × IsIdent location

-- the values of records, and the target of an alias
abbrev pub IsBody : Body → Type 0
IsBody (body.Values ttl values) = AllByRecursion IsInLayout values
IsBody (body.Alias target evaluate) = IsName target

-- What every set is.
pub record IsSet (set : RecordSet) : Type 0 where
  pub name : IsName set.name
  pub routing : IsRouting set.routing
  pub body : IsBody set.body

-- These octets begin with the set's, which are the first n.
pub record BeginsWithSet (octets : List ℕ) (set : RecordSet) (n : ℕ) : Type 0 where
  pub rest : List ℕ
  pub is : IsSet set
  pub has_spelling : HasSpelling set
  pub spelled : octets ≡ set_octets set ++ rest
  pub size : n ≡ length (set_octets set)
