-- The set of the smallest place that applies, kept while the sets are walked from the last on.
use Rattle.std.specs.Prelude.{◌≡◌, ℕ, zero, suc, ◌+◌, ◌*◌, ◌<◌, Bool, true, false, Option, Some, None}
use Rattle.std.specs.Prelude.{List, [], ◌∷◌, map, slice_get, slice_index, if◌then◌else◌}
use Rattle.considered_sets.specs.Considered.{places_from}
use Rattle.considered_sets.specs.Healthy.{healthy_of}
use Rattle.geo_latency.specs.Places.{is_for}
use Rattle.geo_latency.specs.declared.location.Location.{Location}
use Rattle.geo_latency.specs.declared.places.Nearest.{Nearest}
use Rattle.geo_latency.specs.declared.places.Size.{Size}
use Rattle.geo_latency.specs.declared.places.Size.TheVariants as size
use Rattle.routing.specs.declared.policies.Place.{Place}

-- the size of a place that applies to the client
abbrev pub size_of : Option Location → Place → Option Size
size_of client place =
    if is_for size.Subdivision client place then Some size.Subdivision
    else if is_for size.Country client place then Some size.Country
    else if is_for size.Continent client place then Some size.Continent
    else if is_for size.Anywhere client place then Some size.Anywhere
    else None

-- a number for each size, from the smallest on
abbrev pub order_of : Size → ℕ
order_of size.Subdivision = 0
order_of size.Country = 1
order_of size.Continent = 2
order_of size.Anywhere = 3

-- a healthy set before one that is not, and then a smaller place before a larger one
abbrev pub rank_of : (healthy : Bool) → Size → ℕ
rank_of true size = order_of size
rank_of false size = order_of size + 4

-- a number of a country, equal for equal ones
abbrev pub code_number : List ℕ → ℕ
code_number code = slice_index code 0 + slice_index code 1 * 256

-- the number of the client's country; above each where none is told
abbrev pub country_number : Option (List ℕ) → ℕ
country_number None = 65536
country_number (Some code) = code_number code

abbrev pub wanted : Option Location → ℕ
wanted None = 65536
wanted (Some client) = country_number client.country

-- the sets that apply with a place of a size, of those from one on
abbrev pub sets_from : Size → Option Location → ℕ → List Place → List ℕ
sets_from size client i places = places_from i (map (is_for size client) places)

-- the same in the order of ranks: the healthy ones by sizes, and then all
abbrev pub ranks : Option Location → (healthy : List Bool) → ℕ → List Place → List (List ℕ)
ranks client healthy i places =
    healthy_of healthy (sets_from size.Subdivision client i places)
    ∷ healthy_of healthy (sets_from size.Country client i places)
    ∷ healthy_of healthy (sets_from size.Continent client i places)
    ∷ healthy_of healthy (sets_from size.Anywhere client i places)
    ∷ sets_from size.Subdivision client i places
    ∷ sets_from size.Country client i places
    ∷ sets_from size.Continent client i places
    ∷ sets_from size.Anywhere client i places ∷ []

-- The first list that isn't empty has this place, and begins with this set. Where all are empty,
-- the place is behind the last.
abbrev pub IsFirstRank : (rank set : ℕ) → List (List ℕ) → Type 0
IsFirstRank rank set [] = rank ≡ 0
IsFirstRank zero set (xs ∷ rest) = slice_get xs 0 ≡ Some set
IsFirstRank (suc rank) set (xs ∷ rest) = (xs ≡ []) × IsFirstRank rank set rest

-- the lists with a set in front of one of them
abbrev pub put : (rank set : ℕ) → List (List ℕ) → List (List ℕ)
put rank set [] = []
put zero set (xs ∷ rest) = (set ∷ xs) ∷ rest
put (suc rank) set (xs ∷ rest) = xs ∷ put rank set rest

-- the lists with a set more, where its place applies with this size
abbrev pub with_set : (healthy : Bool) → Option Size → (set : ℕ) → List (List ℕ) → List (List ℕ)
with_set healthy None set lists = lists
with_set true (Some size) set lists =
    put (order_of size) set (put (order_of size + 4) set lists)
with_set false (Some size) set lists = put (order_of size + 4) set lists

-- where one was found, it is one of so many
abbrev pub IsWithin : Nearest → ℕ → Type 0
IsWithin nearest n = nearest.rank < 8 → nearest.set < n
