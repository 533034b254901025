-- The rows of tables that tell where clients are.
use Rattle.std.specs.Prelude.{ℕ, ◌+◌, ◌&&◌, ◌==◌, nat_lt, nat_le, Bool, true, false, List, [], ◌∷◌}
use Rattle.std.specs.Prelude.{length, take, drop, codes, Option, None, Some, if◌then◌else◌}
use Rattle.std.specs.List.{list_all}
use Rattle.std.specs.Str.{bytes_eq}
use Rattle.geo_latency.specs.declared.location.Location.{Location}
use Rattle.prefix_text.specs.Marks.{place_of}
use Rattle.prefix_text.specs.Prefixes.{plain_number}
use Rattle.routing.specs.Texts.{is_region_byte, is_subdivision_byte}
use Rattle.routing.specs.declared.policies.Continent.{Continent}
use Rattle.routing.specs.declared.policies.Continent.TheVariants.{Af, An, As, Eu, Na, Oc, Sa}

-- the codes of the continents
abbrev pub continent_of_text : List ℕ → Option Continent
continent_of_text text =
    if bytes_eq text (codes "AF") then Some Af
    else if bytes_eq text (codes "AN") then Some An
    else if bytes_eq text (codes "AS") then Some As
    else if bytes_eq text (codes "EU") then Some Eu
    else if bytes_eq text (codes "NA") then Some Na
    else if bytes_eq text (codes "OC") then Some Oc
    else if bytes_eq text (codes "SA") then Some Sa
    else None

-- A to Z
abbrev pub is_capital : ℕ → Bool
is_capital b = nat_le 0x41 b && nat_le b 0x5A

-- a country: two of A to Z, or `-` where none is told
abbrev pub country_of_text : List ℕ → Option (Option (List ℕ))
country_of_text [] = None
country_of_text (a ∷ []) = if a == 0x2D then Some None else None
country_of_text (a ∷ b ∷ []) = if is_capital a && is_capital b then Some (Some (a ∷ b ∷ [])) else None
country_of_text (a ∷ b ∷ c ∷ rest) = None

-- a subdivision: 1 to 3 of A to Z and 0 to 9, or `-` where none is told
abbrev pub is_subdivision : List ℕ → Bool
is_subdivision text =
    nat_lt 0 (length text) && nat_le (length text) 3 && list_all is_subdivision_byte text

abbrev pub subdivision_of_text : List ℕ → Option (Option (List ℕ))
subdivision_of_text text =
    if bytes_eq text (codes "-") then Some None
    else if is_subdivision text then Some (Some text) else None

-- No subdivision is told where no country is.
abbrev pub is_within : (country subdivision : Option (List ℕ)) → Bool
is_within None None = true
is_within None (Some part) = false
is_within (Some country) subdivision = true

abbrev pub located : Option Continent → (country subdivision : Option (Option (List ℕ)))
    → Option Location
located None country subdivision = None
located (Some continent) None subdivision = None
located (Some continent) (Some country) None = None
located (Some continent) (Some country) (Some subdivision) =
    if is_within country subdivision
    then Some (record { continent = continent; country = country; subdivision = subdivision })
    else None

-- A country and a subdivision with a space between them, behind the code of a continent.
abbrev pub in_continent : Option Continent → List ℕ → (place : Option ℕ) → Option Location
in_continent continent text None = None
in_continent continent text (Some at) =
    located continent (country_of_text (take at text)) (subdivision_of_text (drop (at + 1) text))

-- a continent, a country and a subdivision with one space between them
abbrev pub behind_continent : List ℕ → (place : Option ℕ) → Option Location
behind_continent text None = None
behind_continent text (Some at) =
    in_continent (continent_of_text (take at text)) (drop (at + 1) text)
    (place_of 0x20 (drop (at + 1) text))

abbrev pub location_of_text : List ℕ → Option Location
location_of_text text = behind_continent text (place_of 0x20 text)

-- the name of a region: 1 to 32 of a to z, 0 to 9 and `-`
abbrev pub is_region : List ℕ → Bool
is_region text = nat_lt 0 (length text) && nat_le (length text) 32 && list_all is_region_byte text

abbrev pub region_of_text : List ℕ → Option (List ℕ)
region_of_text text = if is_region text then Some text else None

abbrev pub both_there : (region : Option (List ℕ)) → (latency : Option ℕ) → Option (List ℕ × ℕ)
both_there None latency = None
both_there (Some region) None = None
both_there (Some region) (Some latency) = Some (region, latency)

-- a region, `=` and its latency, a number of 0 to 4,294,967,295 without leading zeros
abbrev pub around_equals : List ℕ → (place : Option ℕ) → Option (List ℕ × ℕ)
around_equals text None = None
around_equals text (Some at) =
    both_there (region_of_text (take at text)) (plain_number 4294967295 (drop (at + 1) text))

abbrev pub region_latency_of : List ℕ → Option (List ℕ × ℕ)
region_latency_of text = around_equals text (place_of 0x3D text)
