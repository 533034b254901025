-- The choice among the sets that may apply to a client.
use Rattle.std.proofs.Common.{◌≡◌, ◌≢◌, ◌≤◌, ◌<◌, ◌+◌, ◌-◌, ℕ, zero, suc, List, [], ◌∷◌, ◌++◌, Option, Some, None}
use Rattle.std.proofs.Common.{take, length-take-le, length, Bool, true, false, inl, inr, refl, sym, ap, ◌∙◌, subst, arith, length-append}
use Rattle.std.proofs.lemmas.Bool.{cases_lt}
use Rattle.std.proofs.lemmas.List.{take_all, take_more, take_more_set, length-map, map-append, get_or_append_left}
use Rattle.std.proofs.lemmas.Option.{slice_get-map}
use Rattle.std.proofs.Math.Seq.{get_or-append_seam}
use Rattle.std.proofs.Math.ListN.{get_or}
use Rattle.std.specs.Prelude.{cond, map, slice_get, slice_set}
use Rattle.std.specs.Str.{bytes_eq}
use Rattle.std.proofs.lemmas.Option.{get_or_from_slice_get, slice_get-get_or, slice_get_within}
use Rattle.std.specs.Option.{unwrap_or}
use Rattle.answer_model.specs.Choice.{each}
use Rattle.answer_model.specs.Policies.{place_of}
use Rattle.zone_table.specs.RecordSetRecord.{RecordSet}
use Rattle.policy_select.proofs.Noted.{said_at}
use Rattle.std.proofs.lemmas.Slice.Eq.{bytes_eq-Decides}
use Rattle.geo_latency.specs.Nearest.{code_number, country_number, wanted}
use Rattle.geo_latency.specs.Places.{is_some_of}
use Rattle.routing.specs.declared.policies.Place.TheVariants.{Country}
use Rattle.std.specs.List.{AllByRecursion, filter}
use Rattle.std.specs.Option.{option_map}
use Rattle.considered_sets.specs.Considered.{places_from}
use Rattle.considered_sets.specs.Healthy.{healthy_of}
use Rattle.geo_latency.specs.Places.{chosen, in_order}
use Rattle.geo_latency.specs.declared.location.Location.{Location}
use Rattle.routing.specs.declared.policies.Place.{Place}
use Rattle.policy_select.specs.Nearby.{AreForOthers, AreNoted, IsElsewhere, IsEnough, IsForOtherCountry}
use Rattle.policy_select.specs.Nearby.{IsOtherCountry}
use Rattle.policy_select.specs.Nearby.{NearbyDecide, noted}

-- ---- lists of numbers below a bound

abbrev pub Below : ℕ → List ℕ → Type 0
Below n xs = AllByRecursion (λ k. k < n) xs

below_more : (m n : ℕ) (xs : List ℕ) → m ≤ n → Below m xs → Below n xs
below_more m n [] more low = tt
below_more m n (x ∷ xs) more low = (omega (arith, more, low.0), below_more m n xs more low.1)

below_both : (n : ℕ) (xs ys : List ℕ) → Below n xs → Below n ys → Below n (xs ++ ys)
below_both n [] ys low lower = lower
below_both n (x ∷ xs) ys low lower = (low.0, below_both n xs ys low.1 lower)

below_from : (at : ℕ) (hs : List Bool) → Below (at + length hs) (places_from at hs)
below_from at [] = tt
below_from at (h ∷ hs) = by h (below_more (at + 1 + length hs) (at + suc (length hs)) (places_from (at + 1) hs)
    (omega arith) (below_from (at + 1) hs))
  where
    by : (b : Bool) → Below (at + suc (length hs)) (places_from (at + 1) hs)
        → Below (at + suc (length hs)) (cond b (at ∷ places_from (at + 1) hs) (places_from (at + 1) hs))
    by true low = (omega arith, low)
    by false low = low

same_map : (f g : ℕ → ℕ) (n : ℕ) (xs : List ℕ) → ((k : ℕ) → k < n → f k ≡ g k) → Below n xs → map f xs ≡ map g xs
same_map f g n [] same low = refl
same_map f g n (x ∷ xs) same low =
    ap (λ (y : ℕ). y ∷ map f xs) (same x low.0)
    ∙ ap (λ (ys : List ℕ). g x ∷ ys) (same_map f g n xs same low.1)

-- a test of what is named is a test of the names
filter_map_is : (f : ℕ → ℕ) (p q : ℕ → Bool) (n : ℕ) (xs : List ℕ)
    → ((k : ℕ) → k < n → p (f k) ≡ q k) → Below n xs
    → filter p (map f xs) ≡ map f (filter q xs)
filter_map_is f p q n [] same low = refl
filter_map_is f p q n (x ∷ xs) same low =
    ap (λ (b : Bool). cond b (f x ∷ filter p (map f xs)) (filter p (map f xs))) (same x low.0)
    ∙ by (q x) (filter_map_is f p q n xs same low.1)
  where
    by : (b : Bool) → filter p (map f xs) ≡ map f (filter q xs)
        → cond b (f x ∷ filter p (map f xs)) (filter p (map f xs))
        ≡ map f (cond b (x ∷ filter q xs) (filter q xs))
    by true e = ap (λ (ys : List ℕ). f x ∷ ys) e
    by false e = e

-- one flag more at the end
from_more : (at : ℕ) (hs : List Bool) (b : Bool)
    → places_from at (hs ++ b ∷ []) ≡ places_from at hs ++ cond b ((at + length hs) ∷ []) []
from_more at [] b = by b
  where
    by : (c : Bool) → cond c (at ∷ []) [] ≡ cond c ((at + 0) ∷ []) []
    by true = let none : at ≡ at + 0 = omega arith in ap (λ (k : ℕ). k ∷ []) none
    by false = refl
from_more at (h ∷ hs) b = by h
    (from_more (at + 1) hs b
    ∙ ap (λ (k : ℕ). places_from (at + 1) hs ++ cond b (k ∷ []) []) one)
  where
    one : at + 1 + length hs ≡ at + suc (length hs)
    one = omega arith

    by : (c : Bool)
        → places_from (at + 1) (hs ++ b ∷ [])
        ≡ places_from (at + 1) hs ++ cond b ((at + suc (length hs)) ∷ []) []
        → cond c (at ∷ places_from (at + 1) (hs ++ b ∷ [])) (places_from (at + 1) (hs ++ b ∷ []))
        ≡ cond c (at ∷ places_from (at + 1) hs) (places_from (at + 1) hs)
        ++ cond b ((at + suc (length hs)) ∷ []) []
    by true e = ap (λ (ks : List ℕ). at ∷ ks) e
    by false e = e

map_cond : (f : ℕ → ℕ) (b : Bool) (k : ℕ) → map f (cond b (k ∷ []) []) ≡ cond b (f k ∷ []) []
map_cond f true k = refl
map_cond f false k = refl

-- ---- the choice

-- the sets that pass a test, in the group's order
abbrev pub passing : (Place → Bool) → List Place → List ℕ
passing test xs = places_from 0 (map test xs)

-- the sets that pass one of four tests, test by test
abbrev pub in_turn : (a b c d : Place → Bool) → List Place → List ℕ
in_turn a b c d xs = passing a xs ++ (passing b xs ++ (passing c xs ++ passing d xs))

pub passing_low : (test : Place → Bool) (xs : List Place) → Below (length xs) (passing test xs)
passing_low test xs =
    let size = length-map xs test in
    below_more (0 + length (map test xs)) (length xs) (passing test xs) (omega (arith, size))
    (below_from 0 (map test xs))

pub passing_more : (test : Place → Bool) (xs : List Place) (place : Place)
    → passing test (xs ++ place ∷ []) ≡ passing test xs ++ cond (test place) (length xs ∷ []) []
passing_more test xs place =
    let size = length-map xs test in
    let at : 0 + length (map test xs) ≡ length xs = omega (arith, size) in
    ap (places_from 0) (map-append test xs (place ∷ [])) ∙ from_more 0 (map test xs) (test place)
    ∙ ap (λ (n : ℕ). passing test xs ++ cond (test place) (n ∷ []) []) at

record NonePasses (a b c d : Bool) : Type 0 where
  first : a ≡ false
  second : b ≡ false
  third : c ≡ false
  fourth : d ≡ false

-- the one place of a list, where it passes
abbrev only : Bool → List ℕ
only b = cond b (0 ∷ []) []

none_passes : (a b c d : Bool)
    → only a ++ (only b ++ (only c ++ only d)) ≡ []
    → NonePasses a b c d
none_passes true b c d e = absurd (grind (arith, e))
none_passes false true c d e = absurd (grind (arith, e))
none_passes false false true d e = absurd (grind (arith, e))
none_passes false false false true e = absurd (grind (arith, e))
none_passes false false false false e = record { first = refl; second = refl; third = refl; fourth = refl }

module _ (client : Option Location) (a b c d : Place → Bool)
    (turn : (xs : List Place) → in_order client xs ≡ in_turn a b c d xs)
    (places : List Place) (flags : List Bool)
    (near : List Place) (healthy : List Bool) (sets : List ℕ)
    (are : AreNoted client places flags near healthy sets) where
  abbrev of : ℕ → ℕ
  of = noted sets

  none : (p : Place) → IsElsewhere client p → NonePasses (a p) (b p) (c p) (d p)
  none p elsewhere = none_passes (a p) (b p) (c p) (d p) (sym (turn (p ∷ [])) ∙ elsewhere)

  order_low : Below (length near) (in_turn a b c d near)
  order_low =
      let n = length near in
      below_both n (passing a near) (passing b near ++ (passing c near ++ passing d near)) (passing_low a near)
      (below_both n (passing b near) (passing c near ++ passing d near) (passing_low b near)
      (below_both n (passing c near) (passing d near) (passing_low c near) (passing_low d near)))

  order_is : in_turn a b c d places ≡ map of (in_turn a b c d near)
  order_is =
      let x = passing a near in
      let y = passing b near in
      let z = passing c near in
      let w = passing d near in
      let whole = map-append of x (y ++ (z ++ w)) in
      let others = map-append of y (z ++ w) in
      let last = map-append of z w in
      let ea = are.apply a (λ p e. (none p e).first) in
      let eb = are.apply b (λ p e. (none p e).second) in
      let ec = are.apply c (λ p e. (none p e).third) in
      let ed = are.apply d (λ p e. (none p e).fourth) in
      cc

  chosen_in_turn : chosen places flags client ≡ option_map of (chosen near healthy client)
  chosen_in_turn =
      let xs = in_turn a b c d near in
      let asked = healthy_of healthy xs in
      let healthy_are : healthy_of flags (map of xs) ≡ map of asked =
      filter_map_is of (λ set. get_or flags set false) (λ set. get_or healthy set false) (length near) xs
      are.said order_low in
      ap (λ (ys : List ℕ). slice_get (healthy_of flags ys ++ ys) 0) (turn places ∙ order_is)
      ∙ ap (λ (ys : List ℕ). slice_get (ys ++ map of xs) 0) healthy_are
      ∙ ap (λ (ys : List ℕ). slice_get ys 0) (sym (map-append of asked xs))
      ∙ slice_get-map of (asked ++ xs) 0
      ∙ ap (λ (ys : List ℕ). option_map of (slice_get (healthy_of healthy ys ++ ys) 0)) (sym (turn near))

pub nearby_decide : NearbyDecide
nearby_decide client places flags near healthy sets are =
    chosen_in_turn client _ _ _ _ (λ xs. refl) places flags near healthy sets are

-- ---- one set more

module _ (client : Option Location) (places : List Place) (flags : List Bool)
    (near : List Place) (healthy : List Bool) (sets : List ℕ) (place : Place) (flag : Bool)
    (are : AreNoted client places flags near healthy sets) where
  long_places : length (places ++ place ∷ []) ≡ length places + 1
  long_places = length-append places (place ∷ [])

  long_flags : length (flags ++ flag ∷ []) ≡ length flags + 1
  long_flags = length-append flags (flag ∷ [])

  old_flag : (j : ℕ) → j < length places → get_or (flags ++ flag ∷ []) j false ≡ get_or flags j false
  old_flag j within =
      let size = are.as_many_flags in
      get_or_append_left flags (flag ∷ []) false j (omega (arith, within, size))

  pub passed : IsElsewhere client place
      → AreNoted client (places ++ place ∷ []) (flags ++ flag ∷ []) near healthy sets
  passed elsewhere =
      record {
        as_many_flags = let size = are.as_many_flags in omega (arith, size, long_places, long_flags);
        as_many_healthy = are.as_many_healthy;
        as_many_sets = are.as_many_sets;
        apply = λ test fits. passing_more test places place
            ∙ ap (λ (b : Bool). passing test places ++ cond b (length places ∷ []) [])
            (fits place elsewhere)
            ∙ append_none (passing test places) ∙ are.apply test fits;
        within = λ k low. let old = are.within k low in omega (arith, old, long_places);
        said = λ k low. old_flag (noted sets k) (are.within k low) ∙ are.said k low;
      }
    where
      append_none : (xs : List ℕ) → xs ++ [] ≡ xs
      append_none [] = refl
      append_none (x ∷ xs) = ap (λ (ys : List ℕ). x ∷ ys) (append_none xs)

  abbrev sets_now : List ℕ
  sets_now = sets ++ length places ∷ []

  old_set : (k : ℕ) → k < length near → noted sets_now k ≡ noted sets k
  old_set k low =
      let size = are.as_many_sets in
      get_or_append_left sets (length places ∷ []) 0 k (omega (arith, low, size))

  new_set : noted sets_now (length near) ≡ length places
  new_set =
      ap (λ (k : ℕ). noted sets_now k) (sym are.as_many_sets)
      ∙ get_or-append_seam sets (length places) [] 0

  each_set : (P : ℕ → Type 0) → ((k : ℕ) → k < length near → P k) → P (length near)
      → (k : ℕ) → k < length near + 1 → P k
  each_set P old new k low = elim (cases_lt k (length near)) [
    | inl less ↦ old k less
    | inr last ↦
        let same : length near ≡ k = omega (arith, last, low) in
        subst P same new
  ]

  pub kept : AreNoted client (places ++ place ∷ []) (flags ++ flag ∷ []) (near ++ place ∷ [])
      (healthy ++ flag ∷ []) sets_now
  kept =
      let long_near = length-append near (place ∷ []) in
      let long_healthy = length-append healthy (flag ∷ []) in
      let long_sets = length-append sets (length places ∷ []) in
      record {
        as_many_flags = let size = are.as_many_flags in omega (arith, size, long_places, long_flags);
        as_many_healthy = let size = are.as_many_healthy in omega (arith, size, long_near, long_healthy);
        as_many_sets = let size = are.as_many_sets in omega (arith, size, long_near, long_sets);
        apply = λ test fits. passing_more test places place
            ∙ ap (λ (ks : List ℕ). ks ++ cond (test place) (length places ∷ []) [])
            (are.apply test fits ∙ sym (same_map (noted sets_now) (noted sets) (length near)
            (passing test near) old_set (passing_low test near)))
            ∙ ap (λ (n : ℕ). map (noted sets_now) (passing test near) ++ cond (test place) (n ∷ []) [])
            (sym new_set)
            ∙ ap (λ (ks : List ℕ). map (noted sets_now) (passing test near) ++ ks)
            (sym (map_cond (noted sets_now) (test place) (length near)))
            ∙ sym (map-append (noted sets_now) (passing test near)
            (cond (test place) (length near ∷ []) []))
            ∙ ap (map (noted sets_now)) (sym (passing_more test near place));
        within = λ k low. each_set (λ (j : ℕ). noted sets_now j < length (places ++ place ∷ []))
            (λ j less. let old = are.within j less in
            let same = old_set j less in omega (arith, old, same, long_places))
            (let same = new_set in omega (arith, same, long_places))
            k (omega (arith, low, long_near));
        said = λ k low. each_set (λ (j : ℕ). get_or (flags ++ flag ∷ []) (noted sets_now j) false
            ≡ get_or (healthy ++ flag ∷ []) j false)
            (λ j less.
            let size = are.as_many_healthy in
            ap (λ (i : ℕ). get_or (flags ++ flag ∷ []) i false) (old_set j less)
            ∙ old_flag (noted sets j) (are.within j less) ∙ are.said j less
            ∙ sym (get_or_append_left healthy (flag ∷ []) false j (omega (arith, less, size))))
            (ap (λ (i : ℕ). get_or (flags ++ flag ∷ []) i false) (new_set ∙ sym are.as_many_flags)
            ∙ get_or-append_seam flags flag [] false
            ∙ sym (ap (λ (i : ℕ). get_or (healthy ++ flag ∷ []) i false) (sym are.as_many_healthy)
            ∙ get_or-append_seam healthy flag [] false))
            k (omega (arith, low, long_near));
      }

-- ---- none yet

pub none_noted : (client : Option Location) → AreNoted client [] [] [] [] []
none_noted client =
    record {
      as_many_flags = refl;
      as_many_healthy = refl;
      as_many_sets = refl;
      apply = λ test fits. refl;
      within = λ k low. absurd (omega (arith, low));
      said = λ k low. absurd (omega (arith, low));
    }

-- ---- a set for another country

-- codes of two numbers are two
other_code : (code letters : List ℕ) → code_number letters ≢ code_number code
    → bytes_eq code letters ≡ false
other_code code letters differ = by (bytes_eq code letters) refl
  where
    by : (b : Bool) → bytes_eq code letters ≡ b → bytes_eq code letters ≡ false
    by true e = absurd (differ (ap code_number (sym ((bytes_eq-Decides code letters).0 e))))
    by false e = e

other_country : (told : Option (List ℕ)) (letters : List ℕ)
    → code_number letters ≢ country_number told → is_some_of told letters ≡ false
other_country None letters differ = refl
other_country (Some code) letters differ = other_code code letters differ

country_elsewhere : (client : Option Location) (letters : List ℕ)
    → code_number letters ≢ wanted client → IsElsewhere client (Country letters)
country_elsewhere None letters differ = refl
country_elsewhere (Some told) letters differ =
    ap (λ (b : Bool). only b ++ []) (other_country told.country letters differ)

pub elsewhere : (client : Option Location) (country : ℕ) (place : Place) → country ≡ wanted client
    → IsOtherCountry country place → IsElsewhere client place
elsewhere client country place is (letters, its, differ) =
    subst (IsElsewhere client) (sym its)
    (country_elsewhere client letters (λ same. differ (same ∙ sym is)))

-- ---- as the lists are noted

pub more_at : {X : Type 0} (xs : List X) (i : ℕ) (x : X) → slice_get xs i ≡ Some x
    → take (i + 1) xs ≡ take i xs ++ x ∷ []
more_at xs i x at =
    take_more xs i x (slice_get_within xs i x at)
    ∙ ap (λ y. take i xs ++ y ∷ []) (get_or_from_slice_get xs i x x at)

module _ (client : Option Location) (places : List Place) (flags : List Bool)
    (near : List Place) (healthy : List Bool) (sets : List ℕ) (i n : ℕ) (place : Place) (flag : Bool)
    (at : slice_get places i ≡ Some place) (said : slice_get flags i ≡ Some flag)
    (are : AreNoted client (take i places) (take i flags) (take n near) (take n healthy) (take n sets))
  where
    -- a set more is passed by
    pub passed_by : IsElsewhere client place
        → AreNoted client (take (i + 1) places) (take (i + 1) flags) (take n near) (take n healthy) (take n sets)
    passed_by elsewhere =
        subst (λ (ps : List Place). AreNoted client ps (take (i + 1) flags) (take n near) (take n healthy) (take n sets))
        (sym (more_at places i place at))
        (subst (λ (fs : List Bool). AreNoted client (take i places ++ place ∷ []) fs (take n near) (take n healthy)
        (take n sets))
        (sym (more_at flags i flag said))
        (passed client (take i places) (take i flags) (take n near) (take n healthy) (take n sets) place flag are
        elsewhere))

    -- a set more is noted
    pub one_noted : n < length near → n < length healthy → n < length sets
        → AreNoted client (take (i + 1) places) (take (i + 1) flags) (take (n + 1) (slice_set near n place))
        (take (n + 1) (slice_set healthy n flag)) (take (n + 1) (slice_set sets n i))
    one_noted room_a room_b room_c =
        let old = kept client (take i places) (take i flags) (take n near) (take n healthy) (take n sets) place flag
        are in
        let within = slice_get_within places i place at in
        let size : length (take i places) ≡ i = length-take-le i places (omega (arith, within)) in
        let a = sym (take_more_set near n place room_a) in
        let b = sym (take_more_set healthy n flag room_b) in
        let c = ap (λ (k : ℕ). take n sets ++ k ∷ []) size ∙ sym (take_more_set sets n i room_c) in
        let d = sym (more_at places i place at) in
        let e = sym (more_at flags i flag said) in
        subst (λ (ps : List Place). AreNoted client ps (take (i + 1) flags) (take (n + 1) (slice_set near n place))
        (take (n + 1) (slice_set healthy n flag)) (take (n + 1) (slice_set sets n i))) d
        (subst (λ (fs : List Bool). AreNoted client (take i places ++ place ∷ []) fs
        (take (n + 1) (slice_set near n place)) (take (n + 1) (slice_set healthy n flag))
        (take (n + 1) (slice_set sets n i))) e
        (subst (λ (ns : List Place). AreNoted client (take i places ++ place ∷ []) (take i flags ++ flag ∷ []) ns
        (take (n + 1) (slice_set healthy n flag)) (take (n + 1) (slice_set sets n i))) a
        (subst (λ (hs : List Bool). AreNoted client (take i places ++ place ∷ []) (take i flags ++ flag ∷ [])
        (take n near ++ place ∷ []) hs (take (n + 1) (slice_set sets n i))) b
        (subst (λ (ks : List ℕ). AreNoted client (take i places ++ place ∷ []) (take i flags ++ flag ∷ [])
        (take n near ++ place ∷ []) (take n healthy ++ flag ∷ []) ks) c old))))

-- ---- as the sets of a group are noted

module _ (client : Option Location) (first : Place) (group : List RecordSet) (flags : List Bool)
    (near : List Place) (healthy : List Bool) (sets : List ℕ) (i n : ℕ) (set : RecordSet)
    (at : slice_get group i ≡ Some set)
    (are : AreNoted client (take i (each place_of first group)) (take i flags) (take n near) (take n healthy)
    (take n sets)) where
  abbrev place : Place
  place = unwrap_or (place_of set.routing) first

  its_place : slice_get (each place_of first group) i ≡ Some place
  its_place = said_at place_of first group i set set.routing place at refl refl

  pub set_passed : length flags ≡ length group → IsElsewhere client (unwrap_or (place_of set.routing) first)
      → AreNoted client (take (i + 1) (each place_of first group)) (take (i + 1) flags) (take n near)
      (take n healthy) (take n sets)
  set_passed many =
      let within = slice_get_within group i set at in
      passed_by client (each place_of first group) flags near healthy sets i n place (get_or flags i false)
      its_place (slice_get-get_or flags i false (omega (arith, many, within))) are

  pub set_noted : (flag : Bool) → slice_get flags i ≡ Some flag → n < length near → n < length healthy
      → n < length sets
      → AreNoted client (take (i + 1) (each place_of first group)) (take (i + 1) flags)
      (take (n + 1) (slice_set near n (unwrap_or (place_of set.routing) first)))
      (take (n + 1) (slice_set healthy n flag)) (take (n + 1) (slice_set sets n i))
  set_noted flag said =
      one_noted client (each place_of first group) flags near healthy sets i n place flag its_place said are

-- ---- sets that are passed by

-- one set more is for another country
pub one_more : (country : ℕ) (first : Place) (sets : List RecordSet) (from i : ℕ)
    → AreForOthers country first sets from i → IsForOtherCountry country first sets i
    → AreForOthers country first sets from (i + 1)
one_more country first sets from i others it k low high = elim (cases_lt k i) [
  | inl less ↦ others k low less
  | inr last ↦
      let same : i ≡ k = omega (arith, last, high) in
      subst (λ (j : ℕ). IsForOtherCountry country first sets j) same it
]

module _ (client : Option Location) (country : ℕ) (is : country ≡ wanted client) (first : Place)
    (group : List RecordSet) (flags : List Bool) (many : length flags ≡ length group)
    (near : List Place) (healthy : List Bool) (sets : List ℕ) (n : ℕ) where
  abbrev NotedTo : ℕ → Type 0
  NotedTo i = AreNoted client (take i (each place_of first group)) (take i flags) (take n near) (take n healthy)
      (take n sets)

  one_passed : (i : ℕ) → IsForOtherCountry country first group i → NotedTo i → NotedTo (i + 1)
  one_passed i it are =
      set_passed client first group flags near healthy sets i n it.0 it.1 are many
      (elsewhere client country (unwrap_or (place_of it.0.routing) first) is it.2)

  passed_on : (d i : ℕ) → AreForOthers country first group i (i + d) → NotedTo i → NotedTo (i + d)
  passed_on zero i others are =
      let none : i ≡ i + 0 = omega arith in
      subst NotedTo none are
  passed_on (suc d) i others are =
      let same : i + 1 + d ≡ i + suc d = omega arith in
      subst NotedTo same
      (passed_on d (i + 1) (λ k low high. others k (omega (arith, low)) (omega (arith, high)))
      (one_passed i (others i (omega arith) (omega arith)) are))

  pub passed_to : (i j : ℕ) → i ≤ j → AreForOthers country first group i j → NotedTo i → NotedTo j
  passed_to i j low others are =
      let same : i + (j - i) ≡ j = omega (arith, low) in
      subst NotedTo same
      (passed_on (j - i) i (λ k first_on high. others k first_on (omega (arith, high, low))) are)

  -- a set more is noted behind those that were passed by
  pub noted_on : (from i : ℕ) (set : RecordSet) (told : Place) (flag : Bool) → slice_get group i ≡ Some set
      → told ≡ unwrap_or (place_of set.routing) first → slice_get flags i ≡ Some flag
      → n < length near → n < length healthy → n < length sets
      → from ≤ i → AreForOthers country first group from i → NotedTo from
      → AreNoted client (take (i + 1) (each place_of first group)) (take (i + 1) flags)
      (take (n + 1) (slice_set near n told)) (take (n + 1) (slice_set healthy n flag))
      (take (n + 1) (slice_set sets n i))
  noted_on from i set told flag at says said room_a room_b room_c low others are =
      subst
      (λ (p : Place). AreNoted client (take (i + 1) (each place_of first group)) (take (i + 1) flags)
      (take (n + 1) (slice_set near n p)) (take (n + 1) (slice_set healthy n flag))
      (take (n + 1) (slice_set sets n i))) (sym says)
      (set_noted client first group flags near healthy sets i n set at (passed_to from i low others are) flag said
      room_a room_b room_c)

  pub all_are_enough : (m : ℕ) → length group ≤ m → NotedTo m
      → IsEnough client (each place_of first group) flags (take n near) (take n healthy) (take n sets)
  all_are_enough m all are =
      let size = length-map group (λ (s : RecordSet). unwrap_or (place_of s.routing) first) in
      let whole = take_all m (each place_of first group) (omega (arith, size, all)) in
      let whole_flags = take_all m flags (omega (arith, many, all)) in (
        m,
        are,
        ap (λ (ps : List Place). chosen ps (take m flags) client) whole
            ∙ ap (λ (fs : List Bool). chosen (each place_of first group) fs client) whole_flags,
      )

-- ---- the choice among what is noted

pub chosen_noted : (client : Option Location) (places : List Place) (flags : List Bool)
    (near : List Place) (healthy : List Bool) (sets : List ℕ) (nearest result : Option ℕ)
    → IsEnough client places flags near healthy sets → nearest ≡ chosen near healthy client
    → result ≡ option_map (noted sets) nearest → result ≡ chosen places flags client
chosen_noted client places flags near healthy sets nearest result (n, are, decide) is says =
    says ∙ ap (option_map (noted sets)) is
    ∙ sym (nearby_decide client (take n places) (take n flags) near healthy sets are) ∙ decide
