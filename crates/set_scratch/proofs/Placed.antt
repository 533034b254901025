-- Where values stand among octets.
use Rattle.std.proofs.Common.{◌≡◌, ℕ, zero, suc, ◌+◌, ◌<◌, ◌≤◌, ◌-◌, ◌/◌, ◌%◌, List, [], ◌∷◌, ◌++◌, length}
use Rattle.std.proofs.Common.{drop, map, get_or, Some, arith, ap, subst, ◌∙◌, sym, refl}
use Rattle.std.proofs.Common.{append_assoc, length-append, length-drop, drop-drop}
use Rattle.std.specs.Prelude.{slice_get, slice_index}
use Rattle.std.proofs.lemmas.List.{get_or-drop}
use Rattle.octets.specs.Numbers.{number_at}
use Rattle.std.specs.List.{flat_map}
use Rattle.std.proofs.Math.Seq.{drop-append_seam}
use Rattle.set_parts.specs.Datum.{Datum}
use Rattle.set_parts.specs.Octets.{value_octets}
use Rattle.set_scratch.specs.Kept.{starts_of}

-- Octets from a place on begin with these values, of which the others stand behind the first.
pub others_behind : (octets : List ℕ) (at : ℕ) (value : Datum) (values : List Datum) (after : List ℕ)
    → drop at octets ≡ flat_map value_octets (value ∷ values) ++ after
    → drop (at + (length value.wire + 2)) octets ≡ flat_map value_octets values ++ after
others_behind octets at value values after there =
    let tail = flat_map value_octets values ++ after in
    let front : drop at octets ≡ value_octets value ++ tail =
    there ∙ append_assoc (value_octets value) (flat_map value_octets values) after in
    let sum : at + (length value.wire + 2) ≡ at + length (value_octets value) = omega arith in
    ap (λ k. drop k octets) sum ∙ sym (drop-drop (length (value_octets value)) at octets)
    ∙ ap (drop (length (value_octets value))) front ∙ drop-append_seam (value_octets value) tail

-- A value at the place of one of these.
pub record IsValueAt (octets : List ℕ) (values : List Datum) (i at : ℕ) : Type 0 where
  pub value : Datum
  pub rest : List ℕ
  pub stands : drop at octets ≡ value_octets value ++ rest
  pub is : slice_get (map (λ (v : Datum). v.wire) values) i ≡ Some value.wire

there_in : (octets : List ℕ) (at : ℕ) (values : List Datum) (after : List ℕ) (i d : ℕ)
    → i < length (starts_of at values)
    → drop at octets ≡ flat_map value_octets values ++ after
    → IsValueAt octets values i (get_or (starts_of at values) i d)
there_in octets at [] after i d few there = absurd (omega (arith, few))
there_in octets at (value ∷ values) after zero d few there = record {
  value = value;
  rest = flat_map value_octets values ++ after;
  stands = there ∙ append_assoc (value_octets value) (flat_map value_octets values) after;
  is = refl;
}
there_in octets at (value ∷ values) after (suc i) d few there =
    let later =
    there_in octets (at + (length value.wire + 2)) values after i d (omega (arith, few))
    (others_behind octets at value values after there) in
    record { value = later.value; rest = later.rest; stands = later.stands; is = later.is }

pub value_there : (octets : List ℕ) (at : ℕ) (starts : List ℕ) → (values : List Datum)
    → starts ≡ starts_of at values → (after : List ℕ) (i d : ℕ) → i < length starts
    → drop at octets ≡ flat_map value_octets values ++ after → IsValueAt octets values i (get_or starts i d)
value_there octets at starts values same after i d few there =
    subst (λ s. IsValueAt octets values i (get_or s i d)) (sym same)
    (there_in octets at values after i d (subst (λ s. i < length s) same few) there)

pub starts_long : (at : ℕ) (values : List Datum) → length (starts_of at values) ≡ length values
starts_long at [] = refl
starts_long at (value ∷ values) = ap suc (starts_long (at + (length value.wire + 2)) values)

-- What is left of values whose places are listed one after another.
pub record Along (octets : List ℕ) (at : ℕ) (all : List Datum) (after : List ℕ) (place count : ℕ)
    (starts : List ℕ) : Type 0 where
  pub values : List Datum
  pub stand : drop place octets ≡ flat_map value_octets values ++ after
  pub left : length values ≡ count
  pub so_far : starts ++ starts_of place values ≡ starts_of at all
  pub end : place + length (flat_map value_octets values) ≡ at + length (flat_map value_octets all)

some_left : (octets : List ℕ) (place : ℕ) (values : List Datum) (after : List ℕ) → 0 < length values
    → drop place octets ≡ flat_map value_octets values ++ after → place + 2 ≤ length octets
some_left octets place [] after some there = absurd (omega (arith, some))
some_left octets place (value ∷ values) after some there =
    let front = there ∙ append_assoc (value_octets value) (flat_map value_octets values) after in
    omega (arith, ap length front, length-drop place octets)

-- the number of a value's octets stands there
number_there : (octets : List ℕ) (place : ℕ) (value : Datum) (rest : List ℕ)
    → drop place octets ≡ value_octets value ++ rest → number_at octets place ≡ length value.wire
number_there octets place value rest there =
    let n = length value.wire in
    let first : slice_index octets place ≡ n / 256 =
    ap (slice_index octets) (omega arith) ∙ sym (get_or-drop place octets 0 0)
    ∙ ap (λ o. get_or o 0 0) there in
    let second : slice_index octets (place + 1) ≡ n % 256 =
    sym (get_or-drop place octets 1 0) ∙ ap (λ o. get_or o 1 0) there in
    omega (arith, first, second)

module _ {octets : List ℕ} {at : ℕ} {all : List Datum} {after : List ℕ} {place count : ℕ} {starts : List ℕ}
    (along : Along octets at all after place count starts) where
  pub begun : 0 < count → place + 2 ≤ length octets
  begun some = some_left octets place along.values after (omega (arith, along.left, some)) along.stand

  next : (values : List Datum) → along.values ≡ values → 0 < count → {number : ℕ} → {later : List ℕ}
      → number ≡ number_at octets place → later ≡ starts ++ place ∷ []
      → Along octets at all after (place + (number + 2)) (count - 1) later
  next [] same some is listed = absurd (omega (arith, ap length same, along.left, some))
  next (value ∷ values) same some {number = number} {later = later} is listed =
      let there : drop place octets ≡ flat_map value_octets (value ∷ values) ++ after =
      along.stand ∙ ap (λ vs. flat_map value_octets vs ++ after) same in
      let size : number ≡ length value.wire =
      is ∙ number_there octets place value _
      (there ∙ append_assoc (value_octets value) (flat_map value_octets values) after) in
      let to : place + (length value.wire + 2) ≡ place + (number + 2) = omega (arith, size) in
      record {
        values = values;
        stand = ap (λ k. drop k octets) (sym to) ∙ others_behind octets place value values after there;
        left = omega (arith, ap length same, along.left);
        so_far =
            ap (λ s. s ++ starts_of (place + (number + 2)) values) listed
            ∙ append_assoc starts (place ∷ []) (starts_of (place + (number + 2)) values)
            ∙ ap (λ k. starts ++ place ∷ starts_of k values) (sym to)
            ∙ ap (λ vs. starts ++ starts_of place vs) (sym same) ∙ along.so_far;
        end = omega (
          arith,
          size,
          along.end,
          ap (λ vs. length (flat_map value_octets vs)) same,
          length-append (value_octets value) (flat_map value_octets values),
        );
      }

  pub stepped : 0 < count → {number rest : ℕ} → {later : List ℕ}
      → number ≡ number_at octets place → later ≡ starts ++ place ∷ [] → rest ≡ count - 1
      → Along octets at all after (place + (number + 2)) rest later
  stepped some {number = number} {later = later} is listed fewer =
      subst (λ n. Along octets at all after (place + (number + 2)) n later) (sym fewer)
      (next along.values refl some is listed)
