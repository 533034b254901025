-- A healthy set for the client's country is chosen where no subdivision is told.
use Rattle.std.proofs.Common.{◌≡◌, ◌<◌, ◌+◌, ℕ, suc, List, [], ◌∷◌, ◌++◌, Option, Some, None, length, take, drop}
use Rattle.std.proofs.Common.{Bool, true, false, refl, sym, ap, ◌∙◌, subst, arith, length-append, length-take-le}
use Rattle.std.proofs.Math.ListN.{get_or}
use Rattle.std.proofs.Math.Seq.{get_or-append_seam}
use Rattle.std.proofs.lemmas.List.{get_or_append_left, map-append, take-append-drop}
use Rattle.std.proofs.lemmas.List.Elements.{filter-append}
use Rattle.std.proofs.lemmas.Option.{slice_get_within}
use Rattle.std.proofs.lemmas.Slice.Eq.{bytes_eq-Decides}
use Rattle.std.specs.List.{filter}
use Rattle.std.specs.Prelude.{cond, map, slice_get, ◌&&◌}
use Rattle.considered_sets.specs.Considered.{places_from}
use Rattle.considered_sets.specs.Healthy.{healthy_of}
use Rattle.geo_latency.specs.Places.{chosen, in_order, is_some_of}
use Rattle.geo_latency.specs.declared.location.Location.{Location}
use Rattle.routing.specs.declared.policies.Continent.{Continent}
use Rattle.routing.specs.declared.policies.Place.{Place}
use Rattle.routing.specs.declared.policies.Place.TheVariants as place
use Rattle.policy_select.specs.Nearby.{FirstDecide, Settles}
use Rattle.policy_select.proofs.Nearby.{Below, in_turn, more_at, passing, passing_low, passing_more}

from_both : (at : ℕ) (hs gs : List Bool)
    → places_from at (hs ++ gs) ≡ places_from at hs ++ places_from (at + length hs) gs
from_both at [] gs =
    let none : at ≡ at + 0 = omega arith in
    ap (λ (k : ℕ). places_from k gs) none
from_both at (h ∷ hs) gs = by h
    (from_both (at + 1) hs gs ∙ ap (λ (k : ℕ). places_from (at + 1) hs ++ places_from k gs) one)
  where
    one : at + 1 + length hs ≡ at + suc (length hs)
    one = omega arith

    by : (c : Bool)
        → places_from (at + 1) (hs ++ gs) ≡ places_from (at + 1) hs ++ places_from (at + suc (length hs)) gs
        → cond c (at ∷ places_from (at + 1) (hs ++ gs)) (places_from (at + 1) (hs ++ gs))
        ≡ cond c (at ∷ places_from (at + 1) hs) (places_from (at + 1) hs)
        ++ places_from (at + suc (length hs)) gs
    by true e = ap (λ (ks : List ℕ). at ∷ ks) e
    by false e = e

filter_same : (p q : ℕ → Bool) (n : ℕ) (xs : List ℕ)
    → ((k : ℕ) → k < n → p k ≡ q k) → Below n xs → filter p xs ≡ filter q xs
filter_same p q n [] same low = refl
filter_same p q n (x ∷ xs) same low =
    ap (λ (b : Bool). cond b (x ∷ filter p xs) (filter p xs)) (same x low.0)
    ∙ by (q x) (filter_same p q n xs same low.1)
  where
    by : (b : Bool) → filter p xs ≡ filter q xs
        → cond b (x ∷ filter p xs) (filter p xs) ≡ cond b (x ∷ filter q xs) (filter q xs)
    by true e = ap (λ (ys : List ℕ). x ∷ ys) e
    by false e = e

append_none : (xs : List ℕ) → xs ++ [] ≡ xs
append_none [] = refl
append_none (x ∷ xs) = ap (λ (ys : List ℕ). x ∷ ys) (append_none xs)

-- what stands first, whatever stands behind it
first_is : (u : List ℕ) (k : ℕ) (a b c : List ℕ)
    → slice_get ((((u ++ k ∷ []) ++ a) ++ b) ++ c) 0 ≡ slice_get (u ++ k ∷ []) 0
first_is [] k a b c = refl
first_is (x ∷ u) k a b c = refl

none_pass : (test : Place → Bool) → ((p : Place) → test p ≡ false) → (at : ℕ) (xs : List Place)
    → places_from at (map test xs) ≡ []
none_pass test fails at [] = refl
none_pass test fails at (x ∷ xs) =
    ap (λ (b : Bool). cond b (at ∷ places_from (at + 1) (map test xs)) (places_from (at + 1) (map test xs))) (fails x)
    ∙ none_pass test fails (at + 1) xs

module _ (client : Option Location) (a b c d : Place → Bool)
    (turn : (xs : List Place) → in_order client xs ≡ in_turn a b c d xs)
    (no_part : (p : Place) → a p ≡ false)
    (place : Place) (here : b place ≡ true) where
  abbrev others : List Place → List ℕ
  others ps = passing c ps ++ passing d ps

  begins : (ps : List Place) (fs : List Bool) (u : List ℕ) (k : ℕ) (more : List ℕ)
      → healthy_of fs (passing b ps) ≡ (u ++ k ∷ []) ++ more
      → chosen ps fs client ≡ slice_get (u ++ k ∷ []) 0
  begins ps fs u k more is =
      let order = passing b ps ++ others ps in
      ap (λ (xs : List ℕ). slice_get (healthy_of fs xs ++ xs) 0) (turn ps)
      ∙ ap (λ (xs : List ℕ). slice_get (healthy_of fs (xs ++ order) ++ (xs ++ order)) 0)
      (none_pass a no_part 0 ps)
      ∙ ap (λ (xs : List ℕ). slice_get (xs ++ order) 0)
      (filter-append (λ set. get_or fs set false) (passing b ps) (others ps)
      ∙ ap (λ (xs : List ℕ). xs ++ healthy_of fs (others ps)) is)
      ∙ first_is u k more (healthy_of fs (others ps)) order

  module _ (ks : List Place) (js : List Bool) (size_is : length js ≡ length ks) where
    abbrev firsts : List Place
    firsts = ks ++ place ∷ []

    abbrev flags : List Bool
    flags = js ++ true ∷ []

    seam : get_or flags (length ks) false ≡ true
    seam = ap (λ (n : ℕ). get_or flags n false) (sym size_is) ∙ get_or-append_seam js true [] false

    last_is : healthy_of flags (passing b firsts) ≡ healthy_of flags (passing b ks) ++ length ks ∷ []
    last_is =
        ap (λ (xs : List ℕ). healthy_of flags xs)
        (passing_more b ks place
        ∙ ap (λ (h : Bool). passing b ks ++ cond h (length ks ∷ []) []) here)
        ∙ filter-append (λ set. get_or flags set false) (passing b ks) (length ks ∷ [])
        ∙ ap (λ (h : Bool). healthy_of flags (passing b ks) ++ cond h (length ks ∷ []) []) seam

    long : length flags ≡ length firsts
    long =
        let a = length-append js (true ∷ []) in
        let b = length-append ks (place ∷ []) in
        omega (arith, a, b, size_is)

    module _ (ys : List Place) (gs : List Bool) where
      abbrev tail : List ℕ
      tail = places_from (0 + length (map b firsts)) (map b ys)

      all_is : healthy_of (flags ++ gs) (passing b (firsts ++ ys))
          ≡ (healthy_of flags (passing b ks) ++ length ks ∷ []) ++ healthy_of (flags ++ gs) tail
      all_is =
          ap (λ (xs : List ℕ). healthy_of (flags ++ gs) xs)
          (ap (places_from 0) (map-append b firsts ys) ∙ from_both 0 (map b firsts) (map b ys))
          ∙ filter-append (λ set. get_or (flags ++ gs) set false) (passing b firsts) tail
          ∙ ap (λ (xs : List ℕ). xs ++ healthy_of (flags ++ gs) tail)
          (filter_same (λ set. get_or (flags ++ gs) set false) (λ set. get_or flags set false) (length flags)
          (passing b firsts) (λ k low. get_or_append_left flags gs false k low)
          (subst (λ (n : ℕ). Below n (passing b firsts)) (sym long) (passing_low b firsts))
          ∙ last_is)

      decide : chosen firsts flags client ≡ chosen (firsts ++ ys) (flags ++ gs) client
      decide =
          let u = healthy_of flags (passing b ks) in
          begins firsts flags u (length ks) [] (last_is ∙ sym (append_none (u ++ length ks ∷ [])))
          ∙ sym (begins (firsts ++ ys) (flags ++ gs) u (length ks) (healthy_of (flags ++ gs) tail) all_is)

and_false : (b : Bool) → (b && false) ≡ false
and_false true = refl
and_false false = refl

no_part_by : (a : Place → Bool)
    → ((country part : List ℕ) → a (place.Subdivision country part) ≡ false)
    → ((country : List ℕ) → a (place.Country country) ≡ false)
    → ((continent : Continent) → a (place.Continent continent) ≡ false)
    → a place.Anywhere ≡ false → (p : Place) → a p ≡ false
no_part_by a part country continent anywhere (place.Subdivision x y) = part x y
no_part_by a part country continent anywhere (place.Country x) = country x
no_part_by a part country continent anywhere (place.Continent x) = continent x
no_part_by a part country continent anywhere place.Anywhere = anywhere

decide_here : (told : Location) (code : List ℕ) → told.subdivision ≡ None → told.country ≡ Some code
    → (ks : List Place) (js : List Bool) → length js ≡ length ks → (ys : List Place) (gs : List Bool)
    → chosen (ks ++ place.Country code ∷ []) (js ++ true ∷ []) (Some told)
    ≡ chosen ((ks ++ place.Country code ∷ []) ++ ys) ((js ++ true ∷ []) ++ gs) (Some told)
decide_here told code none its ks js size_is ys gs =
    decide (Some told) _ _ _ _ (λ xs. refl)
    (no_part_by _
    (λ country part. ap (λ (o : Option (List ℕ)). is_some_of told.country country && is_some_of o part) none
    ∙ and_false (is_some_of told.country country))
    (λ country. refl) (λ continent. refl) refl)
    (place.Country code)
    (ap (λ (o : Option (List ℕ)). is_some_of o code) its ∙ (bytes_eq-Decides code code).1 refl)
    ks js size_is ys gs

pub settled : (client : Option Location) (at_place : Place) (places : List Place) (flags : List Bool) (i : ℕ)
    → Settles client at_place → length flags ≡ length places → slice_get places i ≡ Some at_place
    → slice_get flags i ≡ Some true → FirstDecide client places flags (i + 1)
settled client at_place places flags i (told, code, is, none, its, place_is) many at said =
    let n = i + 1 in
    let low = slice_get_within places i at_place at in
    let low_flags = slice_get_within flags i true said in
    let size_a = length-take-le i places (omega (arith, low)) in
    let size_b = length-take-le i flags (omega (arith, low_flags)) in
    let a = more_at places i at_place at
    ∙ ap (λ (p : Place). take i places ++ p ∷ []) place_is in
    let b = more_at flags i true said in
    subst (λ (c : Option Location). FirstDecide c places flags n) (sym is)
    (ap (λ (xs : List Place). chosen xs (take n flags) (Some told)) a
    ∙ ap (λ (xs : List Bool). chosen (take i places ++ place.Country code ∷ []) xs (Some told)) b
    ∙ decide_here told code none its (take i places) (take i flags) (size_b ∙ sym size_a) (drop n places)
    (drop n flags)
    ∙ ap (λ (xs : List Bool). chosen ((take i places ++ place.Country code ∷ []) ++ drop n places) (xs ++ drop n flags)
    (Some told)) (sym b)
    ∙ ap (λ (xs : List Place). chosen (xs ++ drop n places) (take n flags ++ drop n flags) (Some told)) (sym a)
    ∙ ap (λ (xs : List Bool). chosen (take n places ++ drop n places) xs (Some told)) (take-append-drop n flags)
    ∙ ap (λ (xs : List Place). chosen xs flags (Some told)) (take-append-drop n places))
