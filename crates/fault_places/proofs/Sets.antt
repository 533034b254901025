-- Where sets stop: places, policies, what sets answer, and sets as a whole.
use Rattle.std.proofs.Common.{◌≡◌, ℕ, ◌+◌, ◌-◌, ◌<◌, ◌≤◌, ◌^◌, inl, inr, Bool, true, false, List, [], ◌∷◌, ◌++◌, length, arith, ap, ◌∙◌, sym, refl, cond, append_assoc, append-nil, length-append, Option, None, Some, Result, Ok, Err}
use Rattle.std.specs.Prelude.{⊤, map, nat_lt}
use Rattle.std.specs.List.{flat_map}
use Rattle.std.proofs.lemmas.Bool.{ltb-true, lt-ltb}
use Rattle.octets.specs.Numbers.{two_octets, four_octets}
use Rattle.octet_reading.specs.Readers.{has_kind}
use Rattle.octet_reading.specs.Rules.{IsReadAs, AreListable, WhereSome, flag_octet}
use Rattle.octet_reading.proofs.Base.{name_read, flag_read}
use Rattle.octet_reading.proofs.Composed.{in_turn_read}
use Rattle.octet_reading.proofs.OfKind.{kinds_read}
use Rattle.octet_reading.proofs.Optional.{list_read}
use Rattle.octet_reading.proofs.Rules.{err_is, alike, seen_read}
use Rattle.set_fields.proofs.Fields.{fields_are_read}
use Rattle.set_fields.proofs.Textual.{location_ident}
use Rattle.set_fields.specs.Labels.{wire}
use Rattle.set_fields.specs.Types.{number_of}
use Rattle.set_fields.specs.NamesOfDnsName.{AreOctets, IsName}
use Rattle.set_fields.specs.TextsOfRouting.{IsIdent, IsRegion, IsSubdivision, IsLocation}
use Rattle.set_fields.specs.Datum.{Datum}
use Rattle.set_fields.specs.RTypeRecord.{RType}
use Rattle.set_fields.specs.RTypeRecord.TheVariants as rtype
use Rattle.set_fields.specs.ContinentRecord.{Continent}
use Rattle.set_fields.specs.ContinentRecord.TheVariants as continent
use Rattle.set_fields.specs.PlaceRecord.{Place}
use Rattle.set_fields.specs.PlaceRecord.TheVariants as place
use Rattle.set_fields.specs.RoleRecord.{Role}
use Rattle.set_fields.specs.RoleRecord.TheVariants as role
use Rattle.set_fields.specs.RoutingRecord.{Routing}
use Rattle.set_fields.specs.RoutingRecord.TheVariants as routing
use Rattle.set_fields.specs.RecordSetRecord.{RecordSet}
use Rattle.set_fields.specs.BodyRecord.{Body}
use Rattle.set_fields.specs.BodyRecord.TheVariants as body
use Rattle.set_fields.specs.Octets.{place_octets, routing_octets, text_octets, value_octets, head_octets, body_octets, check_octets, set_octets, most_octets}
use Rattle.set_fields.specs.Laws.{IsCountry}
use Rattle.set_reading.specs.Reading.{subdivision_at, places, place_at, weighted_at, failover_at, geolocation_at, latency_at, multivalue_at, cidr_at, policies, routing_at, records_at, alias_at, bodies, body_at, check_at, head_at, tail_at, set_of, set_at, by_place, read}
use Rattle.set_reading.proofs.Answering.{IsGoodBody, set_read}
use Rattle.set_reading.proofs.Policies.{first, others, four_read, IsGoodPlace, IsGoodRouting, routing_read}
use Rattle.set_reading.proofs.ValueLists.{IsValue, are_values, of_type, in_layout, value_read}
use Rattle.fault_places.specs.Fields.{Field, spelling, StandsBehind, StopsIn, led_by}
use Rattle.fault_places.specs.Fields.Ending.{Sized}
use Rattle.fault_places.specs.Sets.{sized, open_ended, counted, place_fields, routing_fields, body_fields, check_fields, fields_of_set, IsInGrammar, BeginsWithLongSet}
use Rattle.fault_places.specs.Laws.{NoFieldIsEmpty, SetStopsAt, GoesOn, FaultsStandFirst, HasFaultAt, SetFaultsAsTold, OneFaultOfOctets, SetsAreFields}
use Rattle.fault_places.proofs.Composed.{kinds_faults, list_faults, optional_faults, nothing_faults, is_there, fields_there}
use Rattle.fault_places.proofs.Leaves.{octet_faults, four_faults, flag_faults, type_faults, continent_faults, role_faults, ttl_faults}
use Rattle.fault_places.proofs.Places.{none_begins, one_stop}
use Rattle.fault_places.proofs.Steps.{Faults, seen_faults, alike_faults, in_turn_faults, in_turn_by_faults, spelling_append, stands_whole, one_field}
use Rattle.fault_places.proofs.Texts.{name_faults, country_faults, ident_faults, region_faults, sub_faults, location_faults, root_is}
use Rattle.fault_places.proofs.Values.{value_faults, some_value, some_is_value}

-- the first field, and those behind it
abbrev later_fields : List Field → List Field
later_fields [] = []
later_fields (f ∷ fields) = fields

abbrev place_kind : Place → ℕ
place_kind where_to = first (place_octets where_to)

abbrev place_later : Place → List Field
place_later where_to = later_fields (place_fields where_to)

abbrev kind : Routing → ℕ
kind policy = first (routing_octets policy)

abbrev later : Routing → List Field
later policy = later_fields (routing_fields policy)

-- the places of a kind
abbrev PlaceOf : ℕ → Place → Type 0
PlaceOf n where_to = IsGoodPlace where_to × (place_kind where_to ≡ n)

continent_from : (x : Place) → PlaceOf 1 x → (p : Continent) × (⊤) × (place.Continent p ≡ x)
continent_from (place.Continent where_to) h = (where_to, tt, refl)
continent_from (place.Country letters) h = absurd cc
continent_from (place.Subdivision letters part) h = absurd cc
continent_from place.Anywhere h = absurd cc

country_from : (x : Place) → PlaceOf 2 x → (p : List ℕ) × (IsCountry p) × (place.Country p ≡ x)
country_from (place.Continent where_to) h = absurd cc
country_from (place.Country letters) h = (letters, record { two = h.0.0; capital = h.0.1 }, refl)
country_from (place.Subdivision letters part) h = absurd cc
country_from place.Anywhere h = absurd cc

subdivision_from : (x : Place) → PlaceOf 3 x
    → (p : List ℕ × List ℕ) × (IsCountry p.0 × IsSubdivision p.1) × (place.Subdivision p.0 p.1 ≡ x)
subdivision_from (place.Continent where_to) h = absurd cc
subdivision_from (place.Country letters) h = absurd cc
subdivision_from (place.Subdivision letters part) h =
    ((letters, part), (record { two = h.0.0.0; capital = h.0.1 }, h.0.0.1), refl)
subdivision_from place.Anywhere h = absurd cc

none_anywhere : (x : Place) → PlaceOf 4 x → place_later x ≡ []
none_anywhere (place.Continent where_to) h = absurd cc
none_anywhere (place.Country letters) h = absurd cc
none_anywhere (place.Subdivision letters part) h = absurd cc
none_anywhere place.Anywhere h = refl

place_there : (x : Place) → has_kind places (place_kind x) ≡ true
place_there (place.Continent where_to) = refl
place_there (place.Country letters) = refl
place_there (place.Subdivision letters part) = refl
place_there place.Anywhere = refl

place_parts : (x : Place) → sized (place_kind x ∷ []) ∷ place_later x ≡ place_fields x
place_parts (place.Continent where_to) = refl
place_parts (place.Country letters) = refl
place_parts (place.Subdivision letters part) = refl
place_parts place.Anywhere = refl

-- the policies of a kind
abbrev Of : ℕ → Routing → Type 0
Of n policy = IsGoodRouting policy × (kind policy ≡ n)

none_simple : (x : Routing) → Of 0 x → later x ≡ []
none_simple routing.Simple h = refl
none_simple (routing.Weighted ident weight) h = absurd cc
none_simple (routing.Failover ident part) h = absurd cc
none_simple (routing.Geolocation ident where_to) h = absurd cc
none_simple (routing.Latency ident region) h = absurd cc
none_simple (routing.Multivalue ident) h = absurd cc
none_simple (routing.Cidr ident collection location) h = absurd cc

weighted_from : (x : Routing) → Of 1 x → (p : List ℕ × ℕ) × (IsIdent p.0 × ⊤)
    × (routing.Weighted p.0 p.1 ≡ x)
weighted_from routing.Simple h = absurd cc
weighted_from (routing.Weighted ident weight) h = ((ident, weight), (h.0.0, tt), refl)
weighted_from (routing.Failover ident part) h = absurd cc
weighted_from (routing.Geolocation ident where_to) h = absurd cc
weighted_from (routing.Latency ident region) h = absurd cc
weighted_from (routing.Multivalue ident) h = absurd cc
weighted_from (routing.Cidr ident collection location) h = absurd cc

failover_from : (x : Routing) → Of 2 x → (p : List ℕ × Role) × (IsIdent p.0 × ⊤)
    × (routing.Failover p.0 p.1 ≡ x)
failover_from routing.Simple h = absurd cc
failover_from (routing.Weighted ident weight) h = absurd cc
failover_from (routing.Failover ident part) h = ((ident, part), (h.0.0, tt), refl)
failover_from (routing.Geolocation ident where_to) h = absurd cc
failover_from (routing.Latency ident region) h = absurd cc
failover_from (routing.Multivalue ident) h = absurd cc
failover_from (routing.Cidr ident collection location) h = absurd cc

geolocation_from : (x : Routing) → Of 3 x → (p : List ℕ × Place) × (IsIdent p.0 × IsGoodPlace p.1)
    × (routing.Geolocation p.0 p.1 ≡ x)
geolocation_from routing.Simple h = absurd cc
geolocation_from (routing.Weighted ident weight) h = absurd cc
geolocation_from (routing.Failover ident part) h = absurd cc
geolocation_from (routing.Geolocation ident where_to) h =
    ((ident, where_to), (h.0.0.0, (h.0.0.1, h.0.1)), refl)
geolocation_from (routing.Latency ident region) h = absurd cc
geolocation_from (routing.Multivalue ident) h = absurd cc
geolocation_from (routing.Cidr ident collection location) h = absurd cc

latency_from : (x : Routing) → Of 4 x → (p : List ℕ × List ℕ) × (IsIdent p.0 × IsRegion p.1)
    × (routing.Latency p.0 p.1 ≡ x)
latency_from routing.Simple h = absurd cc
latency_from (routing.Weighted ident weight) h = absurd cc
latency_from (routing.Failover ident part) h = absurd cc
latency_from (routing.Geolocation ident where_to) h = absurd cc
latency_from (routing.Latency ident region) h = ((ident, region), (h.0.0.0, h.0.0.1), refl)
latency_from (routing.Multivalue ident) h = absurd cc
latency_from (routing.Cidr ident collection location) h = absurd cc

multivalue_from : (x : Routing) → Of 5 x → (p : List ℕ) × (IsIdent p) × (routing.Multivalue p ≡ x)
multivalue_from routing.Simple h = absurd cc
multivalue_from (routing.Weighted ident weight) h = absurd cc
multivalue_from (routing.Failover ident part) h = absurd cc
multivalue_from (routing.Geolocation ident where_to) h = absurd cc
multivalue_from (routing.Latency ident region) h = absurd cc
multivalue_from (routing.Multivalue ident) h = (ident, h.0.0, refl)
multivalue_from (routing.Cidr ident collection location) h = absurd cc

cidr_from : (x : Routing) → Of 6 x
    → (p : (List ℕ × ℕ) × List ℕ) × ((IsIdent p.0.0 × ⊤) × IsLocation p.1)
    × (routing.Cidr p.0.0 p.0.1 p.1 ≡ x)
cidr_from routing.Simple h = absurd cc
cidr_from (routing.Weighted ident weight) h = absurd cc
cidr_from (routing.Failover ident part) h = absurd cc
cidr_from (routing.Geolocation ident where_to) h = absurd cc
cidr_from (routing.Latency ident region) h = absurd cc
cidr_from (routing.Multivalue ident) h = absurd cc
cidr_from (routing.Cidr ident collection location) h =
    (((ident, collection), location), ((h.0.0.0, tt), h.0.1), refl)

parts : (x : Routing) → sized (kind x ∷ []) ∷ later x ≡ routing_fields x
parts routing.Simple = refl
parts (routing.Weighted ident weight) = refl
parts (routing.Failover ident part) = refl
parts (routing.Geolocation ident where_to) = refl
parts (routing.Latency ident region) = refl
parts (routing.Multivalue ident) = refl
parts (routing.Cidr ident collection location) = refl

there : (x : Routing) → has_kind policies (kind x) ≡ true
there routing.Simple = refl
there (routing.Weighted ident weight) = refl
there (routing.Failover ident part) = refl
there (routing.Geolocation ident where_to) = refl
there (routing.Latency ident region) = refl
there (routing.Multivalue ident) = refl
there (routing.Cidr ident collection location) = refl

-- some letters and texts
abbrev an_a : List ℕ
an_a = 0x41 ∷ []

ident_is : IsIdent an_a
ident_is = record { filled = omega arith; short = omega arith; plain = (refl, tt) }

sub_is : IsSubdivision an_a
sub_is = record { filled = omega arith; short = omega arith; plain = (refl, tt) }

region_is : IsRegion (0x61 ∷ [])
region_is = record { filled = omega arith; short = omega arith; plain = (refl, tt) }

country_is : IsCountry (0x41 ∷ 0x41 ∷ [])
country_is = record { two = refl; capital = (refl, (refl, tt)) }

-- one field's spelling
text_alone : (text : List ℕ) → text_octets text ++ [] ≡ text_octets text
text_alone text = append-nil (text_octets text)

subdivision_faults : Faults (PlaceOf 3) place_later subdivision_at
unfolding subdivision_at
subdivision_faults = seen_faults (λ x. place.Subdivision x.0 x.1)
    (λ x h. ((((h.0.two, h.1), h.0.capital), refl), refl)) subdivision_from _
    (in_turn_faults fields_are_read.countries append-nil country_faults sub_faults (an_a, sub_is))

place_faults : Faults IsGoodPlace place_fields place_at
unfolding place_at
place_faults = alike_faults
    (kinds_faults place_kind IsGoodPlace place_later places (
      (
        seen_faults (λ x. place.Continent x) (λ x h. (((tt, tt), refl), refl)) continent_from _
            continent_faults,
        (place.Continent continent.Af, ((tt, tt), refl)),
      ),
      (
        (
          seen_faults (λ x. place.Country x) (λ x h. (((h.two, h.capital), refl), refl))
              country_from _ country_faults,
          (place.Country (0x41 ∷ 0x41 ∷ []), ((country_is.two, country_is.capital), refl)),
        ),
        (
          (
            subdivision_faults,
            (
              place.Subdivision (0x41 ∷ 0x41 ∷ []) an_a,
              (((country_is.two, sub_is), country_is.capital), refl),
            ),
          ),
          (
            (
              nothing_faults (PlaceOf 4) place_later place.Anywhere none_anywhere,
              (place.Anywhere, ((tt, tt), refl)),
            ),
            tt,
          ),
        ),
      ),
    ) 1 refl (λ x is. place_there x))
    (λ x is. (is, place_parts x)) (λ x is. is)

weighted_faults : Faults (Of 1) later weighted_at
unfolding weighted_at
weighted_faults = seen_faults (λ x. routing.Weighted x.0 x.1)
    (λ x h. (((h.0, tt), refl), refl)) weighted_from _
    (in_turn_faults fields_are_read.idents text_alone ident_faults octet_faults (0, tt))

failover_faults : Faults (Of 2) later failover_at
unfolding failover_at
failover_faults = seen_faults (λ x. routing.Failover x.0 x.1)
    (λ x h. (((h.0, tt), refl), refl)) failover_from _
    (in_turn_faults fields_are_read.idents text_alone ident_faults role_faults (role.Primary, tt))

geolocation_faults : Faults (Of 3) later geolocation_at
unfolding geolocation_at
geolocation_faults = seen_faults (λ x. routing.Geolocation x.0 x.1)
    (λ x h. ((((h.0, h.1.0), h.1.1), refl), refl)) geolocation_from _
    (in_turn_faults fields_are_read.idents text_alone ident_faults place_faults
    (place.Anywhere, (tt, tt)))

latency_faults : Faults (Of 4) later latency_at
unfolding latency_at
latency_faults = seen_faults (λ x. routing.Latency x.0 x.1)
    (λ x h. (((h, tt), refl), refl)) latency_from _
    (in_turn_faults fields_are_read.idents text_alone ident_faults region_faults
    (0x61 ∷ [], region_is))

multivalue_faults : Faults (Of 5) later multivalue_at
unfolding multivalue_at
multivalue_faults = seen_faults (λ x. routing.Multivalue x)
    (λ x h. (((h, tt), refl), refl)) multivalue_from _ ident_faults

ident_and_four : (x : List ℕ × ℕ)
    → spelling (open_ended (text_octets x.0) ∷ sized (four_octets x.1) ∷ [])
    ≡ text_octets x.0 ++ four_octets x.1
ident_and_four x = ap (λ t. text_octets x.0 ++ t) (append-nil (four_octets x.1))

cidr_faults : Faults (Of 6) later cidr_at
unfolding cidr_at
cidr_faults = seen_faults (λ x. routing.Cidr x.0.0 x.0.1 x.1)
    (λ x h. ((((h.0.0, location_ident x.1 h.1), h.1), refl), refl)) cidr_from _
    (in_turn_faults (in_turn_read fields_are_read.idents four_read) ident_and_four
    (in_turn_faults fields_are_read.idents text_alone ident_faults four_faults (0, tt))
    location_faults (0x2A ∷ [], inr refl))

location_is : IsLocation (0x2A ∷ [])
location_is = inr refl

routing_faults : Faults IsGoodRouting routing_fields routing_at
unfolding routing_at
routing_faults = alike_faults
    (kinds_faults kind IsGoodRouting later policies (
      (nothing_faults (Of 0) later routing.Simple none_simple, (routing.Simple, ((tt, tt), refl))),
      (
        (weighted_faults, (routing.Weighted an_a 0, ((ident_is, tt), refl))),
        (
          (failover_faults, (routing.Failover an_a role.Primary, ((ident_is, tt), refl))),
          (
            (
              geolocation_faults,
              (routing.Geolocation an_a place.Anywhere, (((ident_is, tt), tt), refl)),
            ),
            (
              (latency_faults, (routing.Latency an_a (0x61 ∷ []), (((ident_is, region_is), tt), refl))),
              (
                (multivalue_faults, (routing.Multivalue an_a, ((ident_is, tt), refl))),
                (
                  (
                    cidr_faults,
                    (
                      routing.Cidr an_a 0 (0x2A ∷ []),
                      (((ident_is, location_ident (0x2A ∷ []) location_is), location_is), refl),
                    ),
                  ),
                  tt,
                ),
              ),
            ),
          ),
        ),
      ),
    ) 0 refl (λ x is. there x))
    (λ x is. (is, parts x)) (λ x is. is)

-- what sets of the type answer
abbrev body_kind : Body → ℕ
body_kind answers = first (body_octets answers)

abbrev body_later : Body → List Field
body_later answers = later_fields (body_fields answers)

abbrev BodyOf : RType → ℕ → Body → Type 0
BodyOf type n answers = IsGoodBody type answers × (body_kind answers ≡ n)

records_from : (type : RType) (x : Body) → BodyOf type 0 x
    → (p : ℕ × List Datum) × ((p.0 < 2 ^ 31) × AreListable (IsValue type) p.1)
    × (body.Values p.0 p.1 ≡ x)
records_from type (body.Values ttl values) h = (
  (ttl, values),
  (
    h.0.spelled.0,
    record { count = h.0.spelled.1; each = are_values type values h.0.of_type h.0.is },
  ),
  refl,
)
records_from type (body.Alias target evaluate) h = absurd cc

alias_from : (type : RType) (x : Body) → BodyOf type 1 x
    → (p : List (List ℕ) × Bool) × (IsName p.0 × ⊤) × (body.Alias p.0 p.1 ≡ x)
alias_from type (body.Values ttl values) h = absurd cc
alias_from type (body.Alias target evaluate) h = ((target, evaluate), (h.0.is, tt), refl)

body_parts : (x : Body) → sized (body_kind x ∷ []) ∷ body_later x ≡ body_fields x
body_parts (body.Values ttl values) = refl
body_parts (body.Alias target evaluate) = refl

body_there : (type : RType) (x : Body) → has_kind (bodies type) (body_kind x) ≡ true
body_there type (body.Values ttl values) = refl
body_there type (body.Alias target evaluate) = refl

each_counted : (values : List Datum)
    → flat_map (λ value. counted (value_octets value) ∷ []) values
    ≡ map (λ value. counted (value_octets value)) values
each_counted [] = refl
each_counted (value ∷ values) =
    ap (λ t. counted (value_octets value) ∷ t) (each_counted values)

good_values : (type : RType) (ttl : ℕ) (values : List Datum) → ttl < 2 ^ 31
    → AreListable (IsValue type) values → IsGoodBody type (body.Values ttl values)
good_values type ttl values below are = record {
  is = in_layout type values are.each;
  spelled = (below, are.count);
  of_type = of_type type values are.each;
}

good_alias : (type : RType) (target : List (List ℕ)) (evaluate : Bool) → IsName target
    → IsGoodBody type (body.Alias target evaluate)
good_alias type target evaluate is = record { is = is; spelled = tt; of_type = tt }

no_values : (type : RType) → AreListable (IsValue type) []
no_values type = record { count = omega arith; each = tt }

records_faults : (type : RType) → Faults (BodyOf type 0) body_later (records_at type)
unfolding records_at
records_faults type = seen_faults (λ x. body.Values x.0 x.1)
    (λ x h. (
      (good_values type x.0 x.1 h.0 h.1, refl),
      ap (λ t. sized (four_octets x.0) ∷ sized (two_octets (length x.1)) ∷ t) (each_counted x.1),
    ))
    (records_from type) _
    (in_turn_faults fields_are_read.times (λ n. append-nil (four_octets n)) ttl_faults
    (list_faults (value_read type) (λ v. append-nil (value_octets v)) (value_faults type)
    (some_value type) (some_is_value type))
    ([], no_values type))

alias_faults : (type : RType) → Faults (BodyOf type 1) body_later alias_at
unfolding alias_at
alias_faults type = seen_faults (λ x. body.Alias x.0 x.1)
    (λ x h. ((good_alias type x.0 x.1 h.0, refl), refl)) (alias_from type) _
    (in_turn_faults name_read (λ x. append-nil (wire x)) name_faults flag_faults (false, tt))

body_faults : (type : RType) → Faults (IsGoodBody type) body_fields (body_at type)
unfolding body_at
body_faults type = alike_faults
    (kinds_faults body_kind (IsGoodBody type) body_later (bodies type) (
      (
        records_faults type,
        (body.Values 0 [], (good_values type 0 [] (omega arith) (no_values type), refl)),
      ),
      (
        (alias_faults type, (body.Alias [] false, (good_alias type [] false root_is, refl))),
        tt,
      ),
    ) 0 refl (λ x is. body_there type x))
    (λ x is. (is, body_parts x)) (λ x is. is)

check_parts : (check : Option ℕ) → WhereSome (λ n. ⊤) check
check_parts None = tt
check_parts (Some check) = tt

check_named : (check : Option ℕ)
    → sized (flag_octet (is_there check) ∷ []) ∷ fields_there (one_field four_octets Sized) check
    ≡ check_fields check
check_named None = refl
check_named (Some check) = refl

check_faults : Faults (λ check. ⊤) check_fields check_at
unfolding check_at
check_faults = alike_faults (optional_faults four_faults 0 tt)
    (λ check is. (tt, check_named check)) (λ check is. check_parts check)

-- what sets answer, as it is read
abbrev octets_later : Body → List ℕ
octets_later answers = others (body_octets answers)

records_read : (type : RType) → IsReadAs (BodyOf type 0) octets_later (records_at type)
unfolding records_at
records_read type = seen_read (λ x. body.Values x.0 x.1)
    (in_turn_read fields_are_read.times (list_read (value_read type)))
    (λ x h. (
      (good_values type x.0 x.1 h.0 h.1, refl),
      sym (append_assoc (four_octets x.0) (two_octets (length x.1)) (flat_map value_octets x.1)),
    ))
    (records_from type)

alias_read : (type : RType) → IsReadAs (BodyOf type 1) octets_later alias_at
unfolding alias_at
alias_read type = seen_read (λ x. body.Alias x.0 x.1) (in_turn_read name_read flag_read)
    (λ x h. ((good_alias type x.0 x.1 h.0, refl), refl)) (alias_from type)

octets_parts : (x : Body) → body_kind x ∷ octets_later x ≡ body_octets x
octets_parts (body.Values ttl values) = refl
octets_parts (body.Alias target evaluate) = refl

body_read : (type : RType) → IsReadAs (IsGoodBody type) body_octets (body_at type)
unfolding body_at
body_read type = alike
    (kinds_read body_kind (IsGoodBody type) octets_later (bodies type) (
      records_read type,
      (alias_read type, tt),
    ) (λ x is. body_there type x))
    (λ x is. (is, octets_parts x)) (λ x is. is)

-- the fields are the octets
place_spelled : (x : Place) → spelling (place_fields x) ≡ place_octets x
place_spelled (place.Continent where_to) = refl
place_spelled (place.Country letters) = ap (λ t. 2 ∷ t) (append-nil letters)
place_spelled (place.Subdivision letters part) =
    ap (λ t. 3 ∷ (letters ++ t)) (append-nil (text_octets part))
place_spelled place.Anywhere = refl

routing_spelled : (x : Routing) → spelling (routing_fields x) ≡ routing_octets x
routing_spelled routing.Simple = refl
routing_spelled (routing.Weighted ident weight) = refl
routing_spelled (routing.Failover ident part) = refl
routing_spelled (routing.Geolocation ident where_to) =
    ap (λ t. 3 ∷ (text_octets ident ++ t)) (place_spelled where_to)
routing_spelled (routing.Latency ident region) =
    ap (λ t. 4 ∷ (text_octets ident ++ t)) (append-nil (text_octets region))
routing_spelled (routing.Multivalue ident) = ap (λ t. 5 ∷ t) (append-nil (text_octets ident))
routing_spelled (routing.Cidr ident collection location) =
    ap (λ t. 6 ∷ (text_octets ident ++ (four_octets collection ++ t)))
    (append-nil (text_octets location))
    ∙ ap (λ t. 6 ∷ t)
    (sym (append_assoc (text_octets ident) (four_octets collection) (text_octets location)))

values_spelled : (values : List Datum)
    → spelling (map (λ value. counted (value_octets value)) values) ≡ flat_map value_octets values
values_spelled [] = refl
values_spelled (value ∷ values) = ap (λ t. value_octets value ++ t) (values_spelled values)

body_spelled : (x : Body) → spelling (body_fields x) ≡ body_octets x
body_spelled (body.Values ttl values) =
    ap (λ t. 0 ∷ (four_octets ttl ++ (two_octets (length values) ++ t))) (values_spelled values)
body_spelled (body.Alias target evaluate) = refl

check_spelled : (x : Option ℕ) → spelling (check_fields x) ≡ check_octets x
check_spelled None = refl
check_spelled (Some check) = refl

-- what stands before the body
abbrev Head : Type 0
Head = (List (List ℕ) × RType) × Routing

abbrev head_fields : Head → List Field
head_fields x =
    open_ended (wire x.0.0) ∷ sized (two_octets (number_of x.0.1)) ∷ routing_fields x.1

named_spelled : (x : List (List ℕ) × RType)
    → spelling (open_ended (wire x.0) ∷ sized (two_octets (number_of x.1)) ∷ [])
    ≡ wire x.0 ++ two_octets (number_of x.1)
named_spelled x = refl

head_spelled : (x : Head)
    → spelling (head_fields x) ≡ (wire x.0.0 ++ two_octets (number_of x.0.1)) ++ routing_octets x.1
head_spelled x =
    ap (λ t. wire x.0.0 ++ (two_octets (number_of x.0.1) ++ t)) (routing_spelled x.1)
    ∙ sym (append_assoc (wire x.0.0) (two_octets (number_of x.0.1)) (routing_octets x.1))

pub sets_are_fields : SetsAreFields
sets_are_fields set =
    let head : Head = ((set.name, set.rtype), set.routing) in
    let rest : spelling (body_fields set.body ++ check_fields set.check)
    ≡ body_octets set.body ++ check_octets set.check =
    spelling_append (body_fields set.body) (check_fields set.check)
    ∙ ap (λ t. t ++ spelling (check_fields set.check)) (body_spelled set.body)
    ∙ ap (λ t. body_octets set.body ++ t) (check_spelled set.check) in
    let all : spelling (fields_of_set set)
    ≡ head_octets set ++ (body_octets set.body ++ check_octets set.check) =
    spelling_append (head_fields head) (body_fields set.body ++ check_fields set.check)
    ∙ ap (λ t. t ++ spelling (body_fields set.body ++ check_fields set.check))
    (head_spelled head)
    ∙ ap (λ t. head_octets set ++ t) rest in
    sym (all ∙ sym (append_assoc (head_octets set) (body_octets set.body) (check_octets set.check)))

abbrev GoodHead : Head → Type 0
GoodHead x = (IsName x.0.0 × ⊤) × IsGoodRouting x.1

abbrev GoodTail : RType → Body × Option ℕ → Type 0
GoodTail type x = IsGoodBody type x.0 × ⊤

abbrev tail_fields : Body × Option ℕ → List Field
tail_fields x = body_fields x.0 ++ check_fields x.1

head_faults : Faults GoodHead head_fields head_at
head_faults =
    in_turn_faults (in_turn_read name_read fields_are_read.types) named_spelled
    (in_turn_faults name_read (λ x. append-nil (wire x)) name_faults type_faults (rtype.A, tt))
    routing_faults (routing.Simple, (tt, tt))

tail_faults : (type : RType) → Faults (GoodTail type) tail_fields (tail_at type)
tail_faults type =
    in_turn_faults (body_read type) body_spelled (body_faults type) check_faults (None, tt)

pub set_faults : Faults IsInGrammar fields_of_set set_at
unfolding set_at
set_faults = seen_faults set_of
    (λ x h. (
      record {
        is = record { name = h.0.0.0; routing = h.0.1.0; body = h.1.0.is };
        routing = h.0.1.1;
        body = h.1.0.spelled;
        of_type = h.1.0.of_type;
      },
      refl,
    ))
    (λ set good. (
      (((set.name, set.rtype), set.routing), (set.body, set.check)),
      (
        ((good.is.name, tt), (good.is.routing, good.routing)),
        (record { is = good.is.body; spelled = good.body; of_type = good.of_type }, tt),
      ),
      refl,
    )) _
    (in_turn_by_faults
    (in_turn_read (in_turn_read name_read fields_are_read.types) (routing_read fields_are_read))
    head_spelled head_faults (λ head h. tail_faults head.0.1)
    (λ head h. (
      (body.Alias [] false, None),
      (good_alias head.0.1 [] false root_is, tt),
    )))

pub no_field_is_empty : NoFieldIsEmpty
no_field_is_empty = set_faults.places.filled

-- what reading tells
too_long : (b : Bool) (y : RecordSet × ℕ) (place : ℕ)
    → cond {A = Result (RecordSet × ℕ) ℕ} b (Err 0) (Ok y) ≡ Err place → (b ≡ true) × (0 ≡ place)
too_long true y place e = (refl, err_is {A = RecordSet × ℕ} 0 place e)
too_long false y place e = absurd (let k : Ok y ≡ Err place = e in cc)

told : (octets : List ℕ) (place : ℕ) (parts : Result (RecordSet × List ℕ) ℕ) → AreOctets octets
    → set_at octets ≡ parts → by_place (length octets) parts ≡ Err place → HasFaultAt octets place
told octets place (Ok x) are s e =
    let t = too_long (nat_lt most_octets (length octets - length x.1))
    (x.0, length octets - length x.1) place e in
    let there = (set_read fields_are_read).stands octets x.0 x.1 are s in
    inr (
      sym t.1,
      record {
        set = x.0;
        rest = x.1;
        is = record {
          is = there.1.is;
          routing = there.1.routing;
          body = there.1.body;
          of_type = there.1.of_type;
        };
        spelled = there.0;
        long = omega (
          arith,
          ltb-true most_octets (length octets - length x.1) t.0,
          ap length there.0,
          length-append (set_octets x.0) x.1,
        );
      },
    )
told octets place (Err left) are s e =
    let same = err_is {A = RecordSet × ℕ} (length octets - left) place e in
    inl (record {
      left = left;
      behind = omega (arith, same, (set_read fields_are_read).fault octets left s);
      stops = set_faults.told octets left are s;
    })

-- the fields before the place go on to a set
goes_on : (before : List ℕ) (set : RecordSet) (field : Field) → IsInGrammar set
    → StandsBehind before field (fields_of_set set) → GoesOn before
goes_on before set field is stands =
    let w = stands_whole before field (fields_of_set set) stands in
    (set, field.octets ++ w.0, is, sym w.1 ∙ sym (sets_are_fields set))

pub faults_stand_first : FaultsStandFirst
faults_stand_first octets place s = (
  goes_on s.stops.before s.stops.value s.stops.field s.stops.good s.stops.stands,
  (elim s.stops.why [ inl m ↦ at_end m.0 | inr m ↦ at_field m.0 ]),
  (elim s.stops.why [
    | inl m ↦ inl (omega (arith, s.behind, m.0))
    | inr m ↦ inr (λ set more rest is e.
        m.2.whole set more rest is
        (ap (λ t. t ++ more) (sym s.stops.parts) ∙ e ∙ ap (λ t. t ++ rest) (sets_are_fields set)))
  ]),
)
  where
    size : length octets ≡ length s.stops.before + length s.stops.here
    size = ap length s.stops.parts ∙ length-append s.stops.before s.stops.here

    at_end : s.left ≡ 0 → length s.stops.before ≤ place
    at_end e = omega (arith, size, s.behind, e)

    at_field : s.left + led_by s.stops.field.ending ≡ length s.stops.here
        → length s.stops.before ≤ place
    at_field e = omega (arith, size, s.behind, e)

-- octets that stop begin with no set, however long
no_set : (octets : List ℕ) (left : ℕ) → StopsIn IsInGrammar fields_of_set octets left
    → (set : RecordSet) (rest : List ℕ) → IsInGrammar set → octets ≡ set_octets set ++ rest → ⊥
no_set octets left s set rest is e =
    none_begins set_faults.places octets left s set rest is
    (e ∙ ap (λ t. t ++ rest) (sets_are_fields set))

one_place : (octets : List ℕ) (place other : ℕ) → SetStopsAt octets place
    → SetStopsAt octets other → place ≡ other
one_place octets place other s t =
    omega (
      arith,
      s.behind,
      t.behind,
      one_stop set_faults.places octets s.left t.left s.stops t.stops,
    )

pub one_fault_of_octets : OneFaultOfOctets
one_fault_of_octets octets place other (inl s) (inl t) = one_place octets place other s t
one_fault_of_octets octets place other (inl s) (inr t) =
    absurd (no_set octets s.left s.stops t.1.set t.1.rest t.1.is t.1.spelled)
one_fault_of_octets octets place other (inr s) (inl t) =
    absurd (no_set octets t.left t.stops s.1.set s.1.rest s.1.is s.1.spelled)
one_fault_of_octets octets place other (inr s) (inr t) = s.0 ∙ sym t.0

-- a set that is too long is told as such
long_told : (octets : List ℕ) → BeginsWithLongSet octets
    → by_place (length octets) (set_at octets) ≡ Err 0
long_told octets b =
    let parts : set_at octets ≡ Ok (b.set, b.rest) =
    ap set_at b.spelled
    ∙ (set_read fields_are_read).again b.set b.rest
    (record {
      is = b.is.is;
      routing = b.is.routing;
      body = b.is.body;
      of_type = b.is.of_type;
    }) in
    let long : nat_lt most_octets (length octets - length b.rest) ≡ true =
    lt-ltb most_octets (length octets - length b.rest)
    (omega (arith, ap length b.spelled, length-append (set_octets b.set) b.rest, b.long)) in
    ap (by_place (length octets)) parts
    ∙ ap (λ t. cond {A = Result (RecordSet × ℕ) ℕ} t (Err 0)
    (Ok (b.set, length octets - length b.rest))) long

none_read : (octets : List ℕ) (place : ℕ) → AreOctets octets → SetStopsAt octets place
    → (parts : Result (RecordSet × List ℕ) ℕ) → set_at octets ≡ parts
    → by_place (length octets) parts ≡ Err place
none_read octets place are s (Ok x) e =
    let there = (set_read fields_are_read).stands octets x.0 x.1 are e in
    absurd (no_set octets s.left s.stops x.0 x.1 (record {
      is = there.1.is;
      routing = there.1.routing;
      body = there.1.body;
      of_type = there.1.of_type;
    }) there.0)
none_read octets place are s (Err left) e =
    let h = told octets (length octets - left) (Err left) are e refl in
    ap Err (one_fault_of_octets octets (length octets - left) place h (inl s))

has_told : (octets : List ℕ) (place : ℕ) → AreOctets octets → HasFaultAt octets place
    → by_place (length octets) (set_at octets) ≡ Err place
has_told octets place are (inl s) = none_read octets place are s (set_at octets) refl
has_told octets place are (inr b) = long_told octets b.1 ∙ ap Err (sym b.0)

pub set_faults_as_told : SetFaultsAsTold
unfolding read
set_faults_as_told octets place are =
    (λ e. told octets place (set_at octets) are refl e, has_told octets place are)
