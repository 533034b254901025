-- What a set says of itself by its routing policy; none where it has another policy.
use Rattle.std.specs.Prelude.{ℕ, List, Option, None, Some}
use Rattle.routing.specs.declared.policies.Place.{Place}
use Rattle.routing.specs.declared.policies.Role.{Role}
use Rattle.routing.specs.declared.policies.Routing.{Routing}
use Rattle.routing.specs.declared.policies.Routing.TheVariants as routing

-- the weight of a weighted set
abbrev pub weight_of : Routing → Option ℕ
weight_of (routing.Weighted ident weight) = Some weight
weight_of other = None

-- the role of a failover set
abbrev pub role_of : Routing → Option Role
role_of (routing.Failover ident role) = Some role
role_of other = None

-- the place of a geolocation set
abbrev pub place_of : Routing → Option Place
place_of (routing.Geolocation ident place) = Some place
place_of other = None

-- the region of a latency set
abbrev pub region_of : Routing → Option (List ℕ)
region_of (routing.Latency ident region) = Some region
region_of other = None

-- the collection of address blocks, and the location in it, of a set of IP-based routing
abbrev pub collection_of : Routing → Option ℕ
collection_of (routing.Cidr ident collection location) = Some collection
collection_of other = None

abbrev pub location_of : Routing → Option (List ℕ)
location_of (routing.Cidr ident collection location) = Some location
location_of other = None
