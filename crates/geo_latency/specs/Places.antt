-- The choice among the sets of a geolocation group (Route 53 Developer Guide, "Geolocation
-- routing"). A set is named by its place in the group, from 0 on.
use Rattle.std.specs.Prelude.{ℕ, Bool, true, false, Option, Some, None}
use Rattle.std.specs.Prelude.{List, ◌++◌, ◌&&◌, ◌==◌, map, slice_get}
use Rattle.std.specs.Str.{bytes_eq}
use Rattle.considered_sets.specs.Considered.{places_from}
use Rattle.considered_sets.specs.Healthy.{healthy_of}
use Rattle.geo_latency.specs.declared.location.Location.{Location}
use Rattle.geo_latency.specs.declared.places.Size.{Size}
use Rattle.geo_latency.specs.declared.places.Size.TheVariants as size
use Rattle.routing.specs.declared.policies.Continent.{Continent}
use Rattle.routing.specs.declared.policies.Continent.TheVariants.{Af, An, As, Eu, Na, Oc, Sa}
use Rattle.routing.specs.declared.policies.Place.{Place}
use Rattle.routing.specs.declared.policies.Place.TheVariants as place

-- a code is told, and is this one
abbrev pub is_some_of : Option (List ℕ) → List ℕ → Bool
is_some_of None other = false
is_some_of (Some code) other = bytes_eq code other

-- a number for each continent
abbrev pub number_of : Continent → ℕ
number_of Af = 0
number_of An = 1
number_of As = 2
number_of Eu = 3
number_of Na = 4
number_of Oc = 5
number_of Sa = 6

abbrev pub is_same_continent : Continent → Continent → Bool
is_same_continent continent other = number_of continent == number_of other

-- A set for a subdivision applies where the client's country and subdivision are both equal, for a
-- country where the country is, for a continent where the continent is, and one for anywhere to
-- each client. To a client of whom no row tells, no other set applies.
abbrev pub is_for : Size → Option Location → Place → Bool
is_for size.Subdivision (Some client) (place.Subdivision country part) =
    is_some_of client.country country && is_some_of client.subdivision part
is_for size.Country (Some client) (place.Country country) = is_some_of client.country country
is_for size.Continent (Some client) (place.Continent continent) =
    is_same_continent client.continent continent
is_for size.Anywhere client place.Anywhere = true
is_for size client place = false

-- the sets that apply with a place of this size
abbrev pub sets_of : Size → Option Location → List Place → List ℕ
sets_of size client places = places_from 0 (map (is_for size client) places)

-- The sets that apply, by the sizes of their places from the smallest on.
abbrev pub in_order : Option Location → List Place → List ℕ
in_order client places = sets_of size.Subdivision client places
    ++ (sets_of size.Country client places
    ++ (sets_of size.Continent client places
    ++ sets_of size.Anywhere client places))

-- The first of them that is healthy; where none is, the first of them (own); none where none
-- applies.
abbrev pub chosen : List Place → (healthy : List Bool) → (client : Option Location) → Option ℕ
chosen places healthy client =
    slice_get (healthy_of healthy (in_order client places) ++ in_order client places) 0
