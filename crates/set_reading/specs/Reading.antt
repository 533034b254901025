-- Reading the octets of sets from left to right, with the first fault that is met (FORMATS, Octets of sets).
use Rattle.std.specs.Prelude.{ℕ, ◌-◌, List, [], ◌∷◌, length, take, drop, nat_lt, Option, Result, Ok, Err, if◌then◌else◌}
use Rattle.set_fields.specs.Readers.{mapped, in_turn, in_turn_by, list_at, optional_at, kinds}
use Rattle.set_fields.specs.Reading.{◌>>=◌, octet_at, two_at, four_at, flag_at}
use Rattle.set_fields.specs.Names.{name_at}
use Rattle.set_fields.specs.Layouts.{is_layout}
use Rattle.set_fields.specs.Datum.{Datum}
use Rattle.set_fields.specs.RTypeRecord.{RType}
use Rattle.set_fields.specs.PlaceRecord.{Place}
use Rattle.set_fields.specs.PlaceRecord.TheVariants as place
use Rattle.set_fields.specs.RoutingRecord.{Routing}
use Rattle.set_fields.specs.RoutingRecord.TheVariants as routing
use Rattle.set_fields.specs.RecordSetRecord.{RecordSet}
use Rattle.set_fields.specs.BodyRecord.{Body}
use Rattle.set_fields.specs.BodyRecord.TheVariants as body
use Rattle.set_fields.specs.Octets.{most_octets}
use Rattle.set_fields.specs.Numbers.{type_at, continent_at, role_at, ttl_at}
use Rattle.set_fields.specs.Texts.{country_at, ident_at, region_at, sub_at, location_at}

-- no field: its kind says all
abbrev pub alone : {A : Type 0} → A → List ℕ → Result (A × List ℕ) ℕ
alone x octets = Ok (x, octets)

-- a country and a subdivision of it
unfoldable pub subdivision_at : List ℕ → Result (Place × List ℕ) ℕ
subdivision_at octets = mapped (λ x. place.Subdivision x.0 x.1) (in_turn country_at sub_at) octets

-- a place: its kind, and what belongs to it
abbrev pub places : List (ℕ × (List ℕ → Result (Place × List ℕ) ℕ))
places =
    (1, mapped (λ x. place.Continent x) continent_at)
    ∷ (2, mapped (λ x. place.Country x) country_at)
    ∷ (3, subdivision_at)
    ∷ (4, alone place.Anywhere)
    ∷ []

unfoldable pub place_at : List ℕ → Result (Place × List ℕ) ℕ
place_at octets = kinds places octets

-- the policies, each behind its kind: an identifier, and what belongs to it
unfoldable pub weighted_at : List ℕ → Result (Routing × List ℕ) ℕ
weighted_at octets = mapped (λ x. routing.Weighted x.0 x.1) (in_turn ident_at octet_at) octets

unfoldable pub failover_at : List ℕ → Result (Routing × List ℕ) ℕ
failover_at octets = mapped (λ x. routing.Failover x.0 x.1) (in_turn ident_at role_at) octets

unfoldable pub geolocation_at : List ℕ → Result (Routing × List ℕ) ℕ
geolocation_at octets = mapped (λ x. routing.Geolocation x.0 x.1) (in_turn ident_at place_at) octets

unfoldable pub latency_at : List ℕ → Result (Routing × List ℕ) ℕ
latency_at octets = mapped (λ x. routing.Latency x.0 x.1) (in_turn ident_at region_at) octets

unfoldable pub multivalue_at : List ℕ → Result (Routing × List ℕ) ℕ
multivalue_at octets = mapped (λ x. routing.Multivalue x) ident_at octets

unfoldable pub cidr_at : List ℕ → Result (Routing × List ℕ) ℕ
cidr_at octets =
    mapped (λ x. routing.Cidr x.0.0 x.0.1 x.1) (in_turn (in_turn ident_at four_at) location_at) octets

-- a policy: its kind, and what belongs to it
abbrev pub policies : List (ℕ × (List ℕ → Result (Routing × List ℕ) ℕ))
policies =
    (0, alone routing.Simple)
    ∷ (1, weighted_at)
    ∷ (2, failover_at)
    ∷ (3, geolocation_at)
    ∷ (4, latency_at)
    ∷ (5, multivalue_at)
    ∷ (6, cidr_at)
    ∷ []

unfoldable pub routing_at : List ℕ → Result (Routing × List ℕ) ℕ
routing_at octets = kinds policies octets

-- A value: the number of its octets, and these, which are one field.
unfoldable pub value_at : RType → List ℕ → Result (Datum × List ℕ) ℕ
value_at type octets = do
  n ← two_at octets
  if nat_lt (length n.1) n.0 then Err 0
      else if is_layout type (take n.0 n.1) then Ok (record { rtype = type; wire = take n.0 n.1 }, drop n.0 n.1)
      else Err (length n.1)

-- a time to live, and a list of values
unfoldable pub records_at : RType → List ℕ → Result (Body × List ℕ) ℕ
records_at type octets =
    mapped (λ x. body.Values x.0 x.1) (in_turn ttl_at (list_at (value_at type))) octets

-- the target of an alias, and whether its health counts
unfoldable pub alias_at : List ℕ → Result (Body × List ℕ) ℕ
alias_at octets = mapped (λ x. body.Alias x.0 x.1) (in_turn name_at flag_at) octets

-- what a set of the type answers: its kind, and what belongs to it
abbrev pub bodies : RType → List (ℕ × (List ℕ → Result (Body × List ℕ) ℕ))
bodies type = (0, records_at type) ∷ (1, alias_at) ∷ []

unfoldable pub body_at : RType → List ℕ → Result (Body × List ℕ) ℕ
body_at type octets = kinds (bodies type) octets

-- a flag, and the number of a check where it is 1
unfoldable pub check_at : List ℕ → Result (Option ℕ × List ℕ) ℕ
check_at octets = optional_at four_at octets

-- name, type and policy
abbrev pub head_at : List ℕ → Result (((List (List ℕ) × RType) × Routing) × List ℕ) ℕ
head_at octets = in_turn (in_turn name_at type_at) routing_at octets

-- what a set of the type answers, and its check
abbrev pub tail_at : RType → List ℕ → Result ((Body × Option ℕ) × List ℕ) ℕ
tail_at type octets = in_turn (body_at type) check_at octets

abbrev pub set_of : ((List (List ℕ) × RType) × Routing) × (Body × Option ℕ) → RecordSet
set_of x = record { name = x.0.0.0; rtype = x.0.0.1; routing = x.0.1; body = x.1.0; check = x.1.1 }

-- the fields of a set in their order
unfoldable pub set_at : List ℕ → Result (RecordSet × List ℕ) ℕ
set_at octets = mapped set_of (in_turn_by head_at (λ head. tail_at head.0.1)) octets

-- The set that octets begin with, and how many octets it has; or the place of the first fault. Where a set is longer than
-- sets may be, that is its first octet.
abbrev pub by_place : (total : ℕ) → Result (RecordSet × List ℕ) ℕ → Result (RecordSet × ℕ) ℕ
by_place total (Ok x) = if nat_lt most_octets (total - length x.1) then Err 0 else Ok (x.0, total - length x.1)
by_place total (Err left) = Err (total - left)

unfoldable pub read : List ℕ → Result (RecordSet × ℕ) ℕ
read octets = by_place (length octets) (set_at octets)
