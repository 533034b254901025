-- The fields of a set, in their order (FORMATS, Octets of sets).
use Rattle.std.specs.Prelude.{◌≡◌, ℕ, ◌<◌, List, [], ◌∷◌, ◌++◌, length, map, Option, None, Some}
use Rattle.octets.specs.Numbers.{two_octets, four_octets}
use Rattle.set_fields.specs.Labels.{wire}
use Rattle.set_fields.specs.Types.{number_of}
use Rattle.set_fields.specs.PlaceRecord.{Place}
use Rattle.set_fields.specs.PlaceRecord.TheVariants as place
use Rattle.set_fields.specs.RoutingRecord.{Routing}
use Rattle.set_fields.specs.RoutingRecord.TheVariants as routing
use Rattle.set_fields.specs.RecordSetRecord.{RecordSet}
use Rattle.set_fields.specs.BodyRecord.{Body}
use Rattle.set_fields.specs.BodyRecord.TheVariants as body
use Rattle.set_fields.specs.Octets.{continent_number, role_number, flag_octet, text_octets, value_octets}
use Rattle.set_fields.specs.Octets.{set_octets, most_octets, IsSpelledRouting, IsSpelledBody, AreOfType}
use Rattle.set_reading.specs.Sets.{IsSet}
use Rattle.fault_places.specs.Fields.{Field}
use Rattle.fault_places.specs.Fields.Ending.{Sized, Open, Counted}

abbrev pub sized : List ℕ → Field
sized octets = record { ending = Sized; octets = octets }

abbrev pub open_ended : List ℕ → Field
open_ended octets = record { ending = Open; octets = octets }

abbrev pub counted : List ℕ → Field
counted octets = record { ending = Counted; octets = octets }

-- a place: its kind, and what belongs to it
abbrev pub place_fields : Place → List Field
place_fields (place.Continent where_to) =
    sized (1 ∷ []) ∷ sized (continent_number where_to ∷ []) ∷ []
place_fields (place.Country letters) = sized (2 ∷ []) ∷ open_ended letters ∷ []
place_fields (place.Subdivision letters part) =
    sized (3 ∷ []) ∷ open_ended letters ∷ open_ended (text_octets part) ∷ []
place_fields place.Anywhere = sized (4 ∷ []) ∷ []

-- a policy: its kind; an identifier, and what belongs to it
abbrev pub routing_fields : Routing → List Field
routing_fields routing.Simple = sized (0 ∷ []) ∷ []
routing_fields (routing.Weighted ident weight) =
    sized (1 ∷ []) ∷ open_ended (text_octets ident) ∷ sized (weight ∷ []) ∷ []
routing_fields (routing.Failover ident part) =
    sized (2 ∷ []) ∷ open_ended (text_octets ident) ∷ sized (role_number part ∷ []) ∷ []
routing_fields (routing.Geolocation ident where_to) =
    sized (3 ∷ []) ∷ open_ended (text_octets ident) ∷ place_fields where_to
routing_fields (routing.Latency ident region) =
    sized (4 ∷ []) ∷ open_ended (text_octets ident) ∷ open_ended (text_octets region) ∷ []
routing_fields (routing.Multivalue ident) =
    sized (5 ∷ []) ∷ open_ended (text_octets ident) ∷ []
routing_fields (routing.Cidr ident collection location) =
    sized (6 ∷ []) ∷ open_ended (text_octets ident) ∷ sized (four_octets collection)
    ∷ open_ended (text_octets location) ∷ []

-- what a set answers: its kind; a time to live, the number of values, and these; or the target of
-- an alias, and whether its health counts
abbrev pub body_fields : Body → List Field
body_fields (body.Values ttl values) =
    sized (0 ∷ []) ∷ sized (four_octets ttl) ∷ sized (two_octets (length values))
    ∷ map (λ value. counted (value_octets value)) values
body_fields (body.Alias target evaluate) =
    sized (1 ∷ []) ∷ open_ended (wire target) ∷ sized (flag_octet evaluate ∷ []) ∷ []

-- a flag, and the number of a check where it is 1
abbrev pub check_fields : Option ℕ → List Field
check_fields None = sized (0 ∷ []) ∷ []
check_fields (Some check) = sized (1 ∷ []) ∷ sized (four_octets check) ∷ []

-- name, type, policy, body and check
abbrev pub fields_of_set : RecordSet → List Field
fields_of_set set =
    (open_ended (wire set.name) ∷ sized (two_octets (number_of set.rtype))
    ∷ routing_fields set.routing)
    ++ (body_fields set.body ++ check_fields set.check)

-- a set whose fields are in the grammar, however many octets it has
pub record IsInGrammar (set : RecordSet) : Type 0 where
  pub is : IsSet set
  pub routing : IsSpelledRouting set.routing
  pub body : IsSpelledBody set.body
  pub of_type : AreOfType set.rtype set.body

-- Octets begin with a set that is longer than sets may be.
pub record BeginsWithLongSet (octets : List ℕ) : Type 0 where
  pub set : RecordSet
  pub rest : List ℕ
  pub is : IsInGrammar set
  pub spelled : octets ≡ set_octets set ++ rest
  pub long : most_octets < length (set_octets set)
