-- Two names right below one name are in the order of their first labels.
use Rattle.std.proofs.Common.{◌≡◌, ◌≢◌, ℕ, zero, suc, ◌+◌, ◌<◌, ◌≤◌, List, [], ◌∷◌, ◌++◌, take, drop, length, get_or, min, ap, ◌∙◌, sym, refl, Bool, true, false, Option, None, Some, Less, Greater, arith, append_assoc, subst}
use Rattle.std.specs.Prelude.{if◌then◌else◌, IfSome, IsTrue, ◌↔◌, not}
use Rattle.std.specs.List.{AllByRecursion, flat_map}
use Rattle.std.specs.declared.cmp.Ordering.{Ordering}
use Rattle.std.specs.Cmp.Lexicographic.{slice_cmp}
use Rattle.std.specs.Ordering.{is_gt, is_lt, nat_cmp, ordering_then}
use Rattle.std.proofs.lemmas.List.{append-nil, length-append, length-take}
use Rattle.std.proofs.Math.Seq.{drop-append_seam, take-append_seam}
use Rattle.set_search.specs.Labels.{IsRawLabel, frame, wire}
use Rattle.set_search.specs.NamesOfDnsName.{IsName}
use Rattle.set_search.specs.OrderOfDnsName.{zone_cmp}
use Rattle.set_search.specs.Suffix.{EndsWith}
use Rattle.set_search.proofs.BesideOfDnsName.{beside}
use Rattle.set_search.proofs.Depth.{below}
use Rattle.set_search.specs.RecordSetRecord.{RecordSet}
use Rattle.set_search.specs.SetKeyRecord.{SetKey}
use Rattle.set_search.specs.RTypeRecord.{RType}
use Rattle.set_search.specs.declared.bounds.Bound.TheVariants as bound
use Rattle.set_search.specs.Bounds.{is_before}
use Rattle.set_store.proofs.Fronts.{above_alike}

-- The first label of a name, and what stands behind it.
record IsFirst (xs more : List ℕ) (labels : List (List ℕ)) : Type 0 where
  label : List ℕ
  above : List (List ℕ)
  is : labels ≡ label ∷ above
  size : get_or xs 0 0 ≡ length label
  text : take (get_or xs 0 0) (drop 1 xs) ≡ label
  rest : drop (get_or xs 0 0 + 1) xs ≡ wire above ++ more
  fits : 1 + get_or xs 0 0 ≤ length xs
  each : AllByRecursion IsRawLabel above

first : (labels : List (List ℕ)) (xs more : List ℕ) → AllByRecursion IsRawLabel labels
    → xs ≡ wire labels ++ more → get_or xs 0 0 ≢ 0 → IsFirst xs more labels
first [] xs more each e some = absurd (some (ap (λ (ys : List ℕ). get_or ys 0 0) e))
first (label ∷ above) xs more each e some =
    let all = flat_map frame above in
    let shape : xs ≡ length label ∷ (label ++ (wire above ++ more)) =
    e ∙ ap (λ (ys : List ℕ). length label ∷ ys)
    (ap (λ ys. ys ++ more) (append_assoc label all (0 ∷ [])) ∙ append_assoc label (wire above) more) in
    let size : get_or xs 0 0 ≡ length label = ap (λ (ys : List ℕ). get_or ys 0 0) shape in
    let long : length xs ≡ suc (length label + length (wire above ++ more)) =
    ap length shape ∙ ap suc (length-append label (wire above ++ more)) in
    let one : get_or xs 0 0 + 1 ≡ suc (length label) = omega (arith, size) in record {
      label = label;
      above = above;
      is = refl;
      size = size;
      text = ap (λ n. take n (drop 1 xs)) size
          ∙ (ap (λ (ys : List ℕ). take (length label) (drop 1 ys)) shape
          ∙ take-append_seam label (wire above ++ more));
      rest = ap (λ n. drop n xs) one
          ∙ (ap (λ (ys : List ℕ). drop (suc (length label)) ys) shape
          ∙ drop-append_seam label (wire above ++ more));
      fits = omega (arith, size, long);
      each = each.1;
    }

-- the first octets of the first ones
take_twice : (n m : ℕ) (xs : List ℕ) → n ≤ m → take n (take m xs) ≡ take n xs
take_twice zero m xs le = refl
take_twice (suc n) zero xs le = absurd (omega (arith, le))
take_twice (suc n) (suc m) [] le = refl
take_twice (suc n) (suc m) (x ∷ xs) le = ap (λ ys. x ∷ ys) (take_twice n m xs (omega (arith, le)))

same_first : (xs : List ℕ) → get_or (take 32 xs) 0 0 ≡ get_or xs 0 0
same_first [] = refl
same_first (x ∷ xs) = refl

same_text : (n : ℕ) (xs : List ℕ) → n < 32 → take n (drop 1 (take 32 xs)) ≡ take n (drop 1 xs)
same_text n [] lt = refl
same_text n (x ∷ xs) lt = take_twice n 31 xs (omega (arith, lt))

-- what stands within the first ones
pub inside : (k n m : ℕ) (xs : List ℕ) → k + n ≤ m → take n (drop k (take m xs)) ≡ take n (drop k xs)
inside zero n m xs le = take_twice n m xs (omega (arith, le))
inside (suc k) n zero xs le = absurd (omega (arith, le))
inside (suc k) n (suc m) [] le = refl
inside (suc k) n (suc m) (x ∷ xs) le = inside k n m xs (omega (arith, le))

pub told_within : (known first piece octets : List ℕ) (offset : ℕ) (found : Bool)
    → first ≡ take 32 known → offset + length octets ≤ length first
    → piece ≡ take (length octets) (drop offset first) → IsTrue found ↔ (piece ≡ octets)
    → IsTrue found ↔ (take (length octets) (drop offset known) ≡ octets)
told_within known first piece octets offset found there fits is told =
    let long : length first ≡ min 32 (length known) = ap length there ∙ length-take 32 known in
    let same : piece ≡ take (length octets) (drop offset known) =
    is
    ∙ (ap (λ (f : List ℕ). take (length octets) (drop offset f)) there
    ∙ inside offset (length octets) 32 known (omega (arith, fits, long))) in
    subst (λ (p : List ℕ). IsTrue found ↔ (p ≡ octets)) same told

-- a name comes before one right below it
module _ (other : List (List ℕ)) (piece : List ℕ) (other_is : IsName other) (told : piece ≡ wire other)
    (size : ℕ) (its_size : size ≡ get_or piece 0 0) (filled : size ≢ 0) where
  lower_parts : IsFirst piece [] other
  lower_parts =
      first other piece [] other_is.raw.each (told ∙ sym (append-nil (wire other)))
      (λ e. filled (its_size ∙ e))

  pub first_fits : size + 1 ≤ length piece
  first_fits = (let f = lower_parts.fits in let e = its_size in omega (arith, f, e))

  pub before_lower : (octets more rest : List ℕ) (name : List (List ℕ)) → IsName name
      → octets ≡ wire name ++ more → rest ≡ drop (size + 1) piece
      → take (length rest) (drop 0 octets) ≡ rest → zone_cmp name other ≡ Less
  before_lower octets more rest name is spelled behind stands =
      let above = lower_parts.above in
      let label = lower_parts.label in
      let rest_is : rest ≡ wire above =
      behind
      ∙ (ap (λ n. drop (n + 1) piece) its_size ∙ (lower_parts.rest ∙ append-nil (wire above))) in
      let same : name ≡ above =
      above_alike octets more name above is.raw.each lower_parts.each spelled
      (subst (λ (r : List ℕ). take (length r) octets ≡ r) rest_is stands) in
      ap (λ (n : List (List ℕ)). zone_cmp n other) same
      ∙ (ap (λ (n : List (List ℕ)). zone_cmp above n) lower_parts.is
      ∙ below (label ∷ []) above (omega arith))

module _ (octets front : List ℕ) (name : List (List ℕ)) (more : List ℕ) (is : IsName name)
    (spelled : octets ≡ wire name ++ more) (there : front ≡ take 32 octets) (own : ℕ)
    (its : own ≡ get_or front 0 0) (some : own ≢ 0) where
  own_first : own ≡ get_or octets 0 0
  own_first = its ∙ (ap (λ (xs : List ℕ). get_or xs 0 0) there ∙ same_first octets)

  parts : IsFirst octets more name
  parts = first name octets more is.raw.each spelled (λ e. some (own_first ∙ e))

  pub enough : own < 32 → 1 + own ≤ length front
  enough lt =
      let f = parts.fits in let o = own_first in
      let long : length front ≡ min 32 (length octets) =
      ap length there ∙ length-take 32 octets in
      omega (arith, f, o, lt, long)

  module _ (other : List (List ℕ)) (piece : List ℕ) (other_is : IsName other) (told : piece ≡ wire other)
      (size : ℕ) (its_size : size ≡ get_or piece 0 0) (filled : size ≢ 0) where
    others : IsFirst piece [] other
    others =
        first other piece [] other_is.raw.each (told ∙ sym (append-nil (wire other)))
        (λ e. filled (its_size ∙ e))

    pub fits : 1 + size ≤ length piece
    fits = (let f = others.fits in let e = its_size in omega (arith, f, e))

    module _ (rest label text : List ℕ) (behind : rest ≡ drop (size + 1) piece)
        (stands : take (length rest) (drop (own + 1) octets) ≡ rest)
        (its_label : label ≡ take own (drop 1 front)) (its_text : text ≡ take size (drop 1 piece))
        (near : own < 32) where
      rest_is : rest ≡ wire others.above
      rest_is =
          behind
          ∙ (ap (λ n. drop (n + 1) piece) its_size
          ∙ (others.rest ∙ append-nil (wire others.above)))

      own_rest : drop (own + 1) octets ≡ wire parts.above ++ more
      own_rest = ap (λ n. drop (n + 1) octets) own_first ∙ parts.rest

      same_above : parts.above ≡ others.above
      same_above =
          above_alike (drop (own + 1) octets) more parts.above others.above parts.each others.each own_rest
          (subst (λ (r : List ℕ). take (length r) (drop (own + 1) octets) ≡ r) rest_is stands)

      label_is : label ≡ parts.label
      label_is =
          its_label
          ∙ (ap (λ (f : List ℕ). take own (drop 1 f)) there
          ∙ (same_text own octets near
          ∙ (ap (λ n. take n (drop 1 octets)) own_first ∙ parts.text)))

      text_is : text ≡ others.label
      text_is = its_text ∙ (ap (λ n. take n (drop 1 piece)) its_size ∙ others.text)

      -- both are right below one name
      pub right_below : (above : List (List ℕ)) × (name ≡ label ∷ above) × (other ≡ text ∷ above)
      right_below = (
        parts.above,
        parts.is ∙ ap (λ (l : List ℕ). l ∷ parts.above) (sym label_is),
        others.is
            ∙ (ap (λ (l : List ℕ). l ∷ others.above) (sym text_is)
            ∙ ap (λ (a : List (List ℕ)). text ∷ a) (sym same_above)),
      )

module _ (label text : List ℕ) (name other above : List (List ℕ)) (is : name ≡ label ∷ above)
    (its : other ≡ text ∷ above) where
  -- two names right below one are in the order of their labels
  pub in_order : slice_cmp nat_cmp label text ≡ zone_cmp name other
  in_order =
      sym (beside label text above)
      ∙ (ap (λ (n : List (List ℕ)). zone_cmp n (text ∷ above)) (sym is)
      ∙ ap (λ (n : List (List ℕ)). zone_cmp name n) (sym its))

  one_label : (more : List (List ℕ)) → name ≡ more ++ other → label ≡ text
  one_label [] e = (let s : label ∷ above ≡ text ∷ above = sym is ∙ (e ∙ its) in cc)
  one_label (x ∷ more) e =
      let long : length name ≡ suc (length more + length other) =
      ap length e ∙ ap suc (length-append more other) in
      let own : length name ≡ suc (length above) = ap length is in
      let others : length other ≡ suc (length above) = ap length its in
      absurd (omega (arith, long, own, others))

  -- one of them ends with the other where their labels are the same
  pub ends_alike : (found : Bool) → IsTrue found ↔ (label ≡ text)
      → IsTrue found ↔ EndsWith name other
  ends_alike found told = (
    λ so. ([], is ∙ (ap (λ (l : List ℕ). l ∷ above) (told.0 so) ∙ sym its)),
    λ ends. told.1 (one_label ends.0 ends.1),
  )

-- what is told of an order is told of the same order
pub told_of : (found : Option Bool) (x y : Ordering) → x ≡ y
    → IfSome found (λ before. x ≡ (if before then Less else Greater))
    → IfSome found (λ before. y ≡ (if before then Less else Greater))
told_of None x y e told = told
told_of (Some before) x y e told = sym e ∙ told

-- where names differ their order tells on which side of a bound a set stands
abbrev TellsName : Option Bool → Ordering → Type 0
TellsName found o = IfSome found (λ before. o ≡ (if before then Less else Greater))

from_by : (o p q : Ordering) (before : Bool) → o ≡ (if before then Less else Greater)
    → before ≡ is_lt (ordering_then (ordering_then o p) q)
from_by o p q true e = sym (ap (λ x. is_lt (ordering_then (ordering_then x p) q)) e)
from_by o p q false e = sym (ap (λ x. is_lt (ordering_then (ordering_then x p) q)) e)

past_by : (o p q : Ordering) (before : Bool) → o ≡ (if before then Less else Greater)
    → before ≡ not (is_gt (ordering_then (ordering_then o p) q))
past_by o p q true e = sym (ap (λ x. not (is_gt (ordering_then (ordering_then x p) q))) e)
past_by o p q false e = sym (ap (λ x. not (is_gt (ordering_then (ordering_then x p) q))) e)

group_by : (o p : Ordering) (before : Bool) → o ≡ (if before then Less else Greater)
    → before ≡ not (is_gt (ordering_then o p))
group_by o p true e = sym (ap (λ x. not (is_gt (ordering_then x p))) e)
group_by o p false e = sym (ap (λ x. not (is_gt (ordering_then x p))) e)

pub by_from : (set : RecordSet) (key : SetKey) (found : Option Bool)
    → TellsName found (zone_cmp set.name key.name)
    → IfSome found (λ before. before ≡ is_before (bound.From key) set)
by_from set key None told = told
by_from set key (Some before) told = from_by _ _ _ before told

pub by_past : (set : RecordSet) (key : SetKey) (found : Option Bool)
    → TellsName found (zone_cmp set.name key.name)
    → IfSome found (λ before. before ≡ is_before (bound.Past key) set)
by_past set key None told = told
by_past set key (Some before) told = past_by _ _ _ before told

pub by_group : (set : RecordSet) (name : List (List ℕ)) (rtype : RType) (found : Option Bool)
    → TellsName found (zone_cmp set.name name)
    → IfSome found (λ before. before ≡ is_before (bound.PastGroup name rtype) set)
by_group set name rtype None told = told
by_group set name rtype (Some before) told = group_by _ _ before told
