-- The sets of a geolocation group that may apply to a client, and those that are for another country.
use Rattle.std.specs.Prelude.{◌≡◌, ◌≢◌, ◌<◌, ◌≤◌, ℕ, Bool, false, Option, Some, None, List, [], ◌∷◌, length, map}
use Rattle.std.specs.Prelude.{slice_get, take, ⊤}
use Rattle.std.specs.Option.{option_map, unwrap_or}
use Rattle.std.proofs.Math.ListN.{get_or}
use Rattle.answer_model.specs.Policies.{place_of}
use Rattle.considered_sets.specs.Considered.{places_from}
use Rattle.geo_latency.specs.Nearest.{code_number}
use Rattle.geo_latency.specs.Places.{chosen, in_order}
use Rattle.geo_latency.specs.declared.location.Location.{Location}
use Rattle.routing.specs.declared.policies.Place.{Place}
use Rattle.routing.specs.declared.policies.Place.TheVariants.{Country}
use Rattle.zone_table.specs.RecordSetRecord.{RecordSet}
use Rattle.policy_select.specs.declared.lists.Walked.{Walked}
use Rattle.policy_select.specs.declared.lists.Walked.TheVariants.{Found, Full, Listed}

-- a place of a group, by its number among the noted sets
abbrev pub noted : (sets : List ℕ) → ℕ → ℕ
noted sets k = get_or sets k 0

-- a place is a country other than the one of this number
abbrev pub IsOtherCountry : (country : ℕ) → Place → Type 0
IsOtherCountry country place =
    (letters : List ℕ) × (place ≡ Country letters) × (code_number letters ≢ country)

-- What is told of a place to one who asks for those that may apply in a country: the place, or
-- nothing where it is a country other than that of the number.
abbrev pub TellsNear : (country : ℕ) → Place → Option Place → Type 0
TellsNear country place None = IsOtherCountry country place
TellsNear country place (Some told) = told ≡ place

-- The set at a place of some is for a country other than the one of this number, where the first one
-- stands for each that has no place.
abbrev pub IsForOtherCountry : (country : ℕ) → (first : Place) → List RecordSet → (i : ℕ)
    → Type 0
IsForOtherCountry country first sets i =
    (set : RecordSet) × (slice_get sets i ≡ Some set)
    × IsOtherCountry country (unwrap_or (place_of set.routing) first)

-- The set at a place of some has this place, where the first one stands for each that has none.
abbrev pub HasPlace : Place → (first : Place) → List RecordSet → (i : ℕ) → Type 0
HasPlace place first sets i =
    (set : RecordSet) × (slice_get sets i ≡ Some set)
    × (unwrap_or (place_of set.routing) first ≡ place)

-- All from one place to another are for other countries.
abbrev pub AreForOthers : (country : ℕ) → (first : Place) → List RecordSet → (from until : ℕ)
    → Type 0
AreForOthers country first sets from until =
    (i : ℕ) → from ≤ i → i < until → IsForOtherCountry country first sets i

-- Alone in a group, a set with this place would not answer the client.
abbrev pub IsElsewhere : Option Location → Place → Type 0
IsElsewhere client place = in_order client (place ∷ []) ≡ []

-- A test of places that only those pass that answer the client.
abbrev pub IsForClient : Option Location → (Place → Bool) → Type 0
IsForClient client test = (place : Place) → IsElsewhere client place → test place ≡ false

-- Of some sets with these places and flags those that may apply are noted: their places, their flags, and
-- where they stand. The others don't apply to the client.
pub record AreNoted (client : Option Location) (places : List Place) (flags : List Bool)
    (near : List Place) (healthy : List Bool) (sets : List ℕ) : Type 0 where
  pub as_many_flags : length flags ≡ length places
  pub as_many_healthy : length healthy ≡ length near
  pub as_many_sets : length sets ≡ length near
  pub apply : (test : Place → Bool) → IsForClient client test
      → places_from 0 (map test places) ≡ map (noted sets) (places_from 0 (map test near))
  pub within : (k : ℕ) → k < length near → noted sets k < length places
  pub said : (k : ℕ) → k < length near → get_or flags (noted sets k) false ≡ get_or healthy k false

-- The choice among all of them is that among the noted ones: it doesn't depend on the health of the others.
abbrev pub NearbyDecide : Type 0
NearbyDecide = (client : Option Location) (places : List Place) (flags : List Bool)
    (near : List Place) (healthy : List Bool) (sets : List ℕ)
    → AreNoted client places flags near healthy sets
    → chosen places flags client ≡ option_map (noted sets) (chosen near healthy client)

-- A place is the client's country, of which no subdivision is told.
abbrev pub Settles : Option Location → Place → Type 0
Settles client place =
    (told : Location) × (code : List ℕ) × (client ≡ Some told) × (told.subdivision ≡ None)
    × (told.country ≡ Some code) × (place ≡ Country code)

-- The set at a place of some is for the client's country, of which no subdivision is told.
abbrev pub SettlesAt : Option Location → (first : Place) → List RecordSet → (i : ℕ) → Type 0
SettlesAt client first sets i = (place : Place) × Settles client place × HasPlace place first sets i

-- The choice among the first sets is that among all of them.
abbrev pub FirstDecide : Option Location → List Place → List Bool → (n : ℕ) → Type 0
FirstDecide client places flags n =
    chosen (take n places) (take n flags) client ≡ chosen places flags client

-- So many first sets are noted, and they decide.
abbrev pub IsEnough : Option Location → List Place → List Bool → (near : List Place)
    → (healthy : List Bool) → (sets : List ℕ) → Type 0
IsEnough client places flags near healthy sets =
    (n : ℕ) × AreNoted client (take n places) (take n flags) near healthy sets
    × FirstDecide client places flags n

-- what holds of a walk's set where one is chosen, and of the number that is noted
abbrev pub OnFound : Walked → (ℕ → Type 0) → Type 0
OnFound (Found set) holds = holds set
OnFound (Listed count) holds = ⊤
OnFound Full holds = ⊤

abbrev pub OnListed : Walked → (ℕ → Type 0) → Type 0
OnListed (Found set) holds = ⊤
OnListed (Listed count) holds = holds count
OnListed Full holds = ⊤
