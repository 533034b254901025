-- The definitions at values from outside.
use Rattle.std.proofs.Common.{◌≡◌, ℕ, true, false, Option, Some, None, List, [], ◌∷◌, map, refl}
use Rattle.std.specs.Prelude.{codes}
use Rattle.geo_latency.specs.Places as place_choice
use Rattle.geo_latency.specs.Regions as region_choice
use Rattle.geo_latency.specs.Rows.{continent_of_text, location_of_text, region_latency_of}
use Rattle.geo_latency.specs.declared.location.Location.{Location}
use Rattle.routing.specs.declared.policies.Continent.TheVariants.{Af, An, As, Eu, Na, Oc, Sa}
use Rattle.routing.specs.declared.policies.Place.{Place}
use Rattle.routing.specs.declared.policies.Place.TheVariants.{Continent, Country, Subdivision, Anywhere}

-- the client is in Texas
abbrev texas : Option Location
texas = Some (record {
  continent = Na;
  country = Some (codes "US");
  subdivision =
      Some (codes "TX");
})

-- sets for Texas, for the United States, for North America and for anywhere
abbrev group : List Place
group = Subdivision (codes "US") (codes "TX") ∷ Country (codes "US") ∷ Continent Na ∷ Anywhere ∷ []

subdivision : place_choice.chosen group (true ∷ true ∷ true ∷ true ∷ []) texas ≡ Some 0
subdivision = refl

country : place_choice.chosen group (false ∷ true ∷ true ∷ true ∷ []) texas ≡ Some 1
country = refl

continent : place_choice.chosen group (false ∷ false ∷ true ∷ true ∷ []) texas ≡ Some 2
continent = refl

anywhere : place_choice.chosen group (false ∷ false ∷ false ∷ true ∷ []) texas ≡ Some 3
anywhere = refl

none_healthy : place_choice.chosen group (false ∷ false ∷ false ∷ false ∷ []) texas ≡ Some 0
none_healthy = refl

-- no row tells of the client
untold : place_choice.chosen group (true ∷ true ∷ true ∷ false ∷ []) None ≡ Some 3
untold = refl

none_applies : place_choice.chosen (Continent Na ∷ []) (true ∷ []) None ≡ None
none_applies = refl

-- a subdivision of this code in another country
other_country : place_choice.chosen (Subdivision (codes "BR") (codes "TX") ∷ []) (true ∷ []) texas
    ≡ None
other_country = refl

continents : map place_choice.number_of (Af ∷ An ∷ As ∷ Eu ∷ Na ∷ Oc ∷ Sa ∷ [])
    ≡ 0 ∷ 1 ∷ 2 ∷ 3 ∷ 4 ∷ 5 ∷ 6 ∷ []
continents = refl

-- sets of the regions z, b and a, and a row that tells of a and b the same
abbrev regions : List (List ℕ)
regions = codes "z" ∷ codes "b" ∷ codes "a" ∷ []

abbrev row : List (List ℕ × ℕ)
row = (codes "b", 20) ∷ (codes "a", 20) ∷ []

smaller_name : region_choice.chosen regions (true ∷ true ∷ true ∷ []) (Some row) ≡ 2
smaller_name = refl

no_row : region_choice.chosen regions (true ∷ true ∷ true ∷ []) None ≡ 2
no_row = refl

healthy_one : region_choice.chosen regions (true ∷ false ∷ false ∷ []) (Some row) ≡ 0
healthy_one = refl

none_is_healthy : region_choice.chosen regions (false ∷ false ∷ false ∷ [])
    (Some ((codes "b", 5) ∷ row)) ≡ 1
none_is_healthy = refl

-- a region that the row doesn't tell, beside one of the highest latency
highest : region_choice.chosen (codes "a" ∷ codes "b" ∷ []) (true ∷ true ∷ [])
    (Some ((codes "b", 4294967295) ∷ [])) ≡ 1
highest = refl

-- the texts of rows
continent_codes : map continent_of_text (codes "AF" ∷ codes "AN" ∷ codes "AS" ∷ codes "EU" ∷ codes "NA"
    ∷ codes "OC" ∷ codes "SA" ∷ [])
    ≡ Some Af ∷ Some An ∷ Some As ∷ Some Eu ∷ Some Na ∷ Some Oc ∷ Some Sa ∷ []
continent_codes = refl

in_texas : location_of_text (codes "NA US TX") ≡ texas
in_texas = refl

in_a_country : location_of_text (codes "EU DE -")
    ≡ Some (record { continent = Eu; country = Some (codes "DE"); subdivision = None })
in_a_country = refl

in_a_continent : location_of_text (codes "AS - -")
    ≡ Some (record { continent = As; country = None; subdivision = None })
in_a_continent = refl

subdivision_alone : location_of_text (codes "NA - TX") ≡ None
subdivision_alone = refl

two_spaces : location_of_text (codes "NA US  TX") ≡ None
two_spaces = refl

small_letters : location_of_text (codes "NA us TX") ≡ None
small_letters = refl

four_letters : location_of_text (codes "NA US TEXA") ≡ None
four_letters = refl

one_field_more : location_of_text (codes "NA US TX -") ≡ None
one_field_more = refl

one_field_fewer : location_of_text (codes "NA US") ≡ None
one_field_fewer = refl

slow_region : region_latency_of (codes "us-east-1=4294967295")
    ≡ Some (codes "us-east-1", 4294967295)
slow_region = refl

too_slow : region_latency_of (codes "us-east-1=4294967296") ≡ None
too_slow = refl

leading_zero : region_latency_of (codes "us-east-1=020") ≡ None
leading_zero = refl

capital_letters : region_latency_of (codes "US-EAST-1=20") ≡ None
capital_letters = refl

no_name : region_latency_of (codes "=20") ≡ None
no_name = refl
