-- The objects GeoLocation and CidrRoutingConfig of a set (API Reference).
use Rattle.std.specs.Prelude.{ℕ, List, [], ◌∷◌, Bool, ◌&&◌, ◌==◌, nat_le, if◌then◌else◌}
use Rattle.std.specs.Prelude.{Option, None, Some, Result, Ok}
use Rattle.routing.specs.declared.policies.Continent.{Continent}
use Rattle.routing.specs.declared.policies.Place.{Place}
use Rattle.routing.specs.declared.policies.Place.TheVariants as place
use Rattle.serde_json.specs.Data.{Data}
use Rattle.line_reading.specs.Reading.{◌>>=◌, object, required, optional, bad}
use Rattle.line_reading.specs.Kinds.{one_of_texts, collection_id}
use Rattle.line_faults.specs.declared.member.Member.{Member}
use Rattle.line_faults.specs.declared.member.Member.TheVariants as m
use Rattle.line_faults.specs.declared.fault.LineFault.{LineFault}
use Rattle.line_faults.specs.declared.fault.LineReason.TheVariants.{Both, Missing}
use Rattle.line_words.specs.Words.{continent_of_text, subdivision_of_text, location_of_text}
use Rattle.policy_lines.specs.declared.places.Country.{Country}
use Rattle.policy_lines.specs.declared.places.Country.TheVariants as country

-- two of A to Z, or `*`
abbrev pub is_capital : ℕ → Bool
is_capital b = nat_le 65 b && nat_le b 90

abbrev pub country_of_text : List ℕ → Option Country
country_of_text (a ∷ []) = if a == 42 then Some country.Any else None
country_of_text (a ∷ b ∷ []) =
    if is_capital a && is_capital b then Some (country.Code (a ∷ b ∷ [])) else None
country_of_text (a ∷ b ∷ c ∷ s) = None
country_of_text [] = None

-- The joint rules, in order: a continent stands alone; else there is a country; `*` has no parts.
unfoldable pub place_of : Option Continent → Option Country → (part : Option (List ℕ))
    → Result Place LineFault
place_of (Some where_to) None None = Ok (place.Continent where_to)
place_of (Some where_to) (Some c) part = bad Both m.ContinentCode
place_of (Some where_to) None (Some s) = bad Both m.ContinentCode
place_of None None part = bad Missing m.CountryCode
place_of None (Some country.Any) None = Ok place.Anywhere
place_of None (Some country.Any) (Some s) = bad Both m.SubdivisionCode
place_of None (Some (country.Code letters)) None = Ok (place.Country letters)
place_of None (Some (country.Code letters)) (Some s) = Ok (place.Subdivision letters s)

unfoldable pub geo_location : Member → Data → Result Place LineFault
geo_location h o = do
  _ ← object h [] (m.ContinentCode ∷ m.CountryCode ∷ m.SubdivisionCode ∷ []) o
  where_to ← optional m.ContinentCode (one_of_texts continent_of_text) o
  land ← optional m.CountryCode (one_of_texts country_of_text) o
  part ← optional m.SubdivisionCode (one_of_texts subdivision_of_text) o
  place_of where_to land part

-- the number of a collection, and one of its locations or `*`
unfoldable pub cidr_routing : Member → Data → Result (ℕ × List ℕ) LineFault
cidr_routing h o = do
  _ ← object h [] (m.CollectionId ∷ m.LocationName ∷ []) o
  id ← required m.CollectionId collection_id o
  place ← required m.LocationName (one_of_texts location_of_text) o
  Ok (id, place)
