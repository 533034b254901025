-- Places and policies, each by its kind.
use Rattle.std.proofs.Common.{◌≡◌, ℕ, List, [], ◌∷◌, refl, true}
use Rattle.std.specs.Prelude.{⊤}
use Rattle.octets.specs.Numbers.{four_octets}
use Rattle.set_fields.specs.Readers.{has_kind}
use Rattle.set_fields.specs.Reading.{octet_at, four_at}
use Rattle.set_fields.specs.Rules.{IsReadAs}
use Rattle.set_fields.proofs.Base.{read_as}
use Rattle.set_fields.proofs.Composed.{in_turn_read}
use Rattle.set_fields.proofs.Digits.{octet_is, four_is, four_again}
use Rattle.set_fields.proofs.OfKind.{kinds_read}
use Rattle.set_fields.proofs.Rules.{alike, nothing_read, seen_read}
use Rattle.set_fields.proofs.Within.{octet_within, four_within}
use Rattle.set_fields.specs.TextsOfRouting.{IsIdent, IsRegion, IsSubdivision, IsLocation}
use Rattle.set_fields.specs.ContinentRecord.{Continent}
use Rattle.set_fields.specs.PlaceRecord.{Place}
use Rattle.set_fields.specs.PlaceRecord.TheVariants as place
use Rattle.set_fields.specs.RoleRecord.{Role}
use Rattle.set_fields.specs.RoutingRecord.{Routing}
use Rattle.set_fields.specs.RoutingRecord.TheVariants as routing
use Rattle.set_fields.specs.Octets.{place_octets, routing_octets, IsSpelledPlace, IsSpelledRouting}
use Rattle.set_fields.specs.Laws.{FieldsAreRead, IsCountry}
use Rattle.set_fields.proofs.Textual.{location_ident}
use Rattle.set_reading.specs.Reading.{subdivision_at, places, place_at, weighted_at, failover_at}
use Rattle.set_reading.specs.Reading.{geolocation_at, latency_at, multivalue_at, cidr_at, policies}
use Rattle.set_reading.specs.Reading.{routing_at}
use Rattle.set_reading.specs.Sets.{IsPlace, IsRouting}

-- numbers, as sets have them: no bound is asked of them
octet_read : IsReadAs (λ n. ⊤) (λ n. n ∷ []) octet_at
octet_read =
    read_as (λ n rest is. refl) (λ octets x bytes e. (octet_is octets x e, tt)) octet_within

pub four_read : IsReadAs (λ n. ⊤) four_octets four_at
four_read =
    read_as (λ n rest is. four_again n rest) (λ octets x bytes e. (four_is octets x bytes e, tt))
    four_within

-- the first octet, and those behind it
abbrev pub first : List ℕ → ℕ
first [] = 0
first (n ∷ octets) = n

abbrev pub others : List ℕ → List ℕ
others [] = []
others (n ∷ octets) = octets

-- what places and policies are
abbrev pub IsGoodPlace : Place → Type 0
IsGoodPlace where_to = IsPlace where_to × IsSpelledPlace where_to

abbrev pub IsGoodRouting : Routing → Type 0
IsGoodRouting policy = IsRouting policy × IsSpelledRouting policy

abbrev place_kind : Place → ℕ
place_kind where_to = first (place_octets where_to)

abbrev place_later : Place → List ℕ
place_later where_to = others (place_octets where_to)

abbrev kind : Routing → ℕ
kind policy = first (routing_octets policy)

abbrev later : Routing → List ℕ
later policy = others (routing_octets policy)

-- the places of a kind
abbrev PlaceOf : ℕ → Place → Type 0
PlaceOf n where_to = IsGoodPlace where_to × (place_kind where_to ≡ n)

continent_from : (x : Place) → PlaceOf 1 x → (p : Continent) × (⊤) × (place.Continent p ≡ x)
continent_from (place.Continent where_to) h = (where_to, tt, refl)
continent_from (place.Country letters) h = absurd cc
continent_from (place.Subdivision letters part) h = absurd cc
continent_from place.Anywhere h = absurd cc

country_from : (x : Place) → PlaceOf 2 x → (p : List ℕ) × (IsCountry p) × (place.Country p ≡ x)
country_from (place.Continent where_to) h = absurd cc
country_from (place.Country letters) h = (letters, record { two = h.0.0; capital = h.0.1 }, refl)
country_from (place.Subdivision letters part) h = absurd cc
country_from place.Anywhere h = absurd cc

subdivision_from : (x : Place) → PlaceOf 3 x
    → (p : List ℕ × List ℕ) × (IsCountry p.0 × IsSubdivision p.1) × (place.Subdivision p.0 p.1 ≡ x)
subdivision_from (place.Continent where_to) h = absurd cc
subdivision_from (place.Country letters) h = absurd cc
subdivision_from (place.Subdivision letters part) h =
    ((letters, part), (record { two = h.0.0.0; capital = h.0.1 }, h.0.0.1), refl)
subdivision_from place.Anywhere h = absurd cc

anywhere_from : (x : Place) → PlaceOf 4 x → x ≡ place.Anywhere
anywhere_from (place.Continent where_to) h = absurd cc
anywhere_from (place.Country letters) h = absurd cc
anywhere_from (place.Subdivision letters part) h = absurd cc
anywhere_from place.Anywhere h = refl

place_parts : (x : Place) → place_kind x ∷ place_later x ≡ place_octets x
place_parts (place.Continent where_to) = refl
place_parts (place.Country letters) = refl
place_parts (place.Subdivision letters part) = refl
place_parts place.Anywhere = refl

place_there : (x : Place) → has_kind places (place_kind x) ≡ true
place_there (place.Continent where_to) = refl
place_there (place.Country letters) = refl
place_there (place.Subdivision letters part) = refl
place_there place.Anywhere = refl

-- the policies of a kind
abbrev Of : ℕ → Routing → Type 0
Of n policy = IsGoodRouting policy × (kind policy ≡ n)

simple_from : (x : Routing) → Of 0 x → x ≡ routing.Simple
simple_from routing.Simple h = refl
simple_from (routing.Weighted ident weight) h = absurd cc
simple_from (routing.Failover ident part) h = absurd cc
simple_from (routing.Geolocation ident where_to) h = absurd cc
simple_from (routing.Latency ident region) h = absurd cc
simple_from (routing.Multivalue ident) h = absurd cc
simple_from (routing.Cidr ident collection location) h = absurd cc

weighted_from : (x : Routing) → Of 1 x → (p : List ℕ × ℕ) × (IsIdent p.0 × ⊤)
    × (routing.Weighted p.0 p.1 ≡ x)
weighted_from routing.Simple h = absurd cc
weighted_from (routing.Weighted ident weight) h = ((ident, weight), (h.0.0, tt), refl)
weighted_from (routing.Failover ident part) h = absurd cc
weighted_from (routing.Geolocation ident where_to) h = absurd cc
weighted_from (routing.Latency ident region) h = absurd cc
weighted_from (routing.Multivalue ident) h = absurd cc
weighted_from (routing.Cidr ident collection location) h = absurd cc

failover_from : (x : Routing) → Of 2 x → (p : List ℕ × Role) × (IsIdent p.0 × ⊤)
    × (routing.Failover p.0 p.1 ≡ x)
failover_from routing.Simple h = absurd cc
failover_from (routing.Weighted ident weight) h = absurd cc
failover_from (routing.Failover ident part) h = ((ident, part), (h.0.0, tt), refl)
failover_from (routing.Geolocation ident where_to) h = absurd cc
failover_from (routing.Latency ident region) h = absurd cc
failover_from (routing.Multivalue ident) h = absurd cc
failover_from (routing.Cidr ident collection location) h = absurd cc

geolocation_from : (x : Routing) → Of 3 x → (p : List ℕ × Place) × (IsIdent p.0 × IsGoodPlace p.1)
    × (routing.Geolocation p.0 p.1 ≡ x)
geolocation_from routing.Simple h = absurd cc
geolocation_from (routing.Weighted ident weight) h = absurd cc
geolocation_from (routing.Failover ident part) h = absurd cc
geolocation_from (routing.Geolocation ident where_to) h =
    ((ident, where_to), (h.0.0.0, (h.0.0.1, h.0.1)), refl)
geolocation_from (routing.Latency ident region) h = absurd cc
geolocation_from (routing.Multivalue ident) h = absurd cc
geolocation_from (routing.Cidr ident collection location) h = absurd cc

latency_from : (x : Routing) → Of 4 x → (p : List ℕ × List ℕ) × (IsIdent p.0 × IsRegion p.1)
    × (routing.Latency p.0 p.1 ≡ x)
latency_from routing.Simple h = absurd cc
latency_from (routing.Weighted ident weight) h = absurd cc
latency_from (routing.Failover ident part) h = absurd cc
latency_from (routing.Geolocation ident where_to) h = absurd cc
latency_from (routing.Latency ident region) h = ((ident, region), (h.0.0.0, h.0.0.1), refl)
latency_from (routing.Multivalue ident) h = absurd cc
latency_from (routing.Cidr ident collection location) h = absurd cc

multivalue_from : (x : Routing) → Of 5 x → (p : List ℕ) × (IsIdent p) × (routing.Multivalue p ≡ x)
multivalue_from routing.Simple h = absurd cc
multivalue_from (routing.Weighted ident weight) h = absurd cc
multivalue_from (routing.Failover ident part) h = absurd cc
multivalue_from (routing.Geolocation ident where_to) h = absurd cc
multivalue_from (routing.Latency ident region) h = absurd cc
multivalue_from (routing.Multivalue ident) h = (ident, h.0.0, refl)
multivalue_from (routing.Cidr ident collection location) h = absurd cc

cidr_from : (x : Routing) → Of 6 x
    → (p : (List ℕ × ℕ) × List ℕ) × ((IsIdent p.0.0 × ⊤) × IsLocation p.1)
    × (routing.Cidr p.0.0 p.0.1 p.1 ≡ x)
cidr_from routing.Simple h = absurd cc
cidr_from (routing.Weighted ident weight) h = absurd cc
cidr_from (routing.Failover ident part) h = absurd cc
cidr_from (routing.Geolocation ident where_to) h = absurd cc
cidr_from (routing.Latency ident region) h = absurd cc
cidr_from (routing.Multivalue ident) h = absurd cc
cidr_from (routing.Cidr ident collection location) h =
    (((ident, collection), location), ((h.0.0.0, tt), h.0.1), refl)

parts : (x : Routing) → kind x ∷ later x ≡ routing_octets x
parts routing.Simple = refl
parts (routing.Weighted ident weight) = refl
parts (routing.Failover ident part) = refl
parts (routing.Geolocation ident where_to) = refl
parts (routing.Latency ident region) = refl
parts (routing.Multivalue ident) = refl
parts (routing.Cidr ident collection location) = refl

there : (x : Routing) → has_kind policies (kind x) ≡ true
there routing.Simple = refl
there (routing.Weighted ident weight) = refl
there (routing.Failover ident part) = refl
there (routing.Geolocation ident where_to) = refl
there (routing.Latency ident region) = refl
there (routing.Multivalue ident) = refl
there (routing.Cidr ident collection location) = refl

module _ (fields : FieldsAreRead) where
  subdivision_read : IsReadAs (PlaceOf 3) place_later subdivision_at
  unfolding subdivision_at
  subdivision_read =
      seen_read (λ x. place.Subdivision x.0 x.1) (in_turn_read fields.countries fields.subdivisions)
      (λ x h. ((((h.0.two, h.1), h.0.capital), refl), refl)) subdivision_from

  pub place_read : IsReadAs IsGoodPlace place_octets place_at
  unfolding place_at
  place_read = alike
      (kinds_read place_kind IsGoodPlace place_later places (
        seen_read (λ x. place.Continent x) fields.continents (λ x h. (((tt, tt), refl), refl))
            continent_from,
        (
          seen_read (λ x. place.Country x) fields.countries
              (λ x h. (((h.two, h.capital), refl), refl)) country_from,
          (
            subdivision_read,
            (
              alike (nothing_read place.Anywhere) (λ x e. rw e (((tt, tt), refl), refl))
                  anywhere_from,
              tt,
            ),
          ),
        ),
      ) (λ x is. place_there x))
      (λ x is. (is, place_parts x)) (λ x is. is)

  weighted_read : IsReadAs (Of 1) later weighted_at
  unfolding weighted_at
  weighted_read = seen_read (λ x. routing.Weighted x.0 x.1) (in_turn_read fields.idents octet_read)
      (λ x h. (((h.0, tt), refl), refl)) weighted_from

  failover_read : IsReadAs (Of 2) later failover_at
  unfolding failover_at
  failover_read =
      seen_read (λ x. routing.Failover x.0 x.1) (in_turn_read fields.idents fields.roles)
      (λ x h. (((h.0, tt), refl), refl)) failover_from

  geolocation_read : IsReadAs (Of 3) later geolocation_at
  unfolding geolocation_at
  geolocation_read =
      seen_read (λ x. routing.Geolocation x.0 x.1) (in_turn_read fields.idents place_read)
      (λ x h. ((((h.0, h.1.0), h.1.1), refl), refl)) geolocation_from

  latency_read : IsReadAs (Of 4) later latency_at
  unfolding latency_at
  latency_read =
      seen_read (λ x. routing.Latency x.0 x.1) (in_turn_read fields.idents fields.regions)
      (λ x h. (((h, tt), refl), refl)) latency_from

  multivalue_read : IsReadAs (Of 5) later multivalue_at
  unfolding multivalue_at
  multivalue_read =
      seen_read (λ x. routing.Multivalue x) fields.idents (λ x h. (((h, tt), refl), refl))
      multivalue_from

  cidr_read : IsReadAs (Of 6) later cidr_at
  unfolding cidr_at
  cidr_read =
      seen_read (λ x. routing.Cidr x.0.0 x.0.1 x.1)
      (in_turn_read (in_turn_read fields.idents four_read) fields.locations)
      (λ x h. ((((h.0.0, location_ident x.1 h.1), h.1), refl), refl)) cidr_from

  pub routing_read : IsReadAs IsGoodRouting routing_octets routing_at
  unfolding routing_at
  routing_read = alike
      (kinds_read kind IsGoodRouting later policies (
        alike (nothing_read routing.Simple) (λ x e. rw e (((tt, tt), refl), refl)) simple_from,
        (
          weighted_read,
          (
            failover_read,
            (geolocation_read, (latency_read, (multivalue_read, (cidr_read, tt)))),
          ),
        ),
      ) (λ x is. there x))
      (λ x is. (is, parts x)) (λ x is. is)
