-- Where the sets of a key stand.
use Rattle.std.proofs.Common.{◌≡◌, ℕ, zero, suc, ◌+◌, ◌<◌, ◌≤◌, List, [], ◌∷◌, length, ap, ◌∙◌, sym, refl, Bool, true, false, Some, Less, Equal, Greater, subst, arith, inl, inr}
use Rattle.std.specs.Prelude.{◌⊎◌, ◌↔◌, slice_get, not}
use Rattle.std.specs.declared.cmp.Ordering.{Ordering}
use Rattle.std.specs.Ordering.{ordering_reverse, ordering_then, nat_cmp, is_gt, is_lt, is_eq}
use Rattle.std.specs.Cmp.{IsTotalOrder}
use Rattle.std.proofs.lemmas.Cmp.{on_total, then_total, nat_cmp_total, tied_itself}
use Rattle.std.proofs.lemmas.Option.{slice_get_within}
use Rattle.zone_model.specs.RecordSetRecord.{RecordSet}
use Rattle.zone_model.specs.SetKeyRecord.{SetKey}
use Rattle.zone_model.specs.Sets.{key_of}
use Rattle.zone_model.specs.OrderOfDnsName.{zone_cmp}
use Rattle.zone_model.specs.OrderLaws.{zone_cmp_total}
use Rattle.zone_model.specs.Types.{number_of}
use Rattle.zone_model.specs.Keys.{ident_cmp, key_cmp}
use Rattle.zone_model.specs.Zones.{IsRising}
use Rattle.zone_model.specs.Placing.{comes_before, comes_behind, IsThere}
use Rattle.zone_model.proofs.Among.{among_at, place_of}
use Rattle.zone_model.proofs.Ordered.{keys_total, keys_tie}
use Rattle.zone_model.proofs.Places.{rising_at}
use Rattle.zone_model.proofs.Staying.{less}
use Rattle.set_search.specs.declared.bounds.Bound.{Bound}
use Rattle.set_search.specs.declared.bounds.Bound.TheVariants as bound
use Rattle.set_search.specs.Bounds.{is_before, group_cmp}
use Rattle.set_search.specs.Found.{IsBracket, IsCount, FindsAt, FindsNone}
use Rattle.set_search.proofs.Filters.{filter_front, filter_back}

up_to : (j k : ℕ) → j ≤ k → (j < k) ⊎ (j ≡ k)
up_to zero zero le = inr refl
up_to zero (suc k) le = inl (omega arith)
up_to (suc j) zero le = absurd (omega (arith, le))
up_to (suc j) (suc k) le = elim (up_to j k (omega (arith, le))) [
  | inl lt ↦ inl (omega (arith, lt))
  | inr e ↦ inr (ap suc e)
]

pub below_or_not : (a b : ℕ) → (a < b) ⊎ (b ≤ a)
below_or_not a zero = inr (omega arith)
below_or_not zero (suc b) = inl (omega arith)
below_or_not (suc a) (suc b) =
    elim (below_or_not a b) [ inl lt ↦ inl (omega (arith, lt)) | inr le ↦ inr (omega (arith, le)) ]

moved : (sets : List RecordSet) (j k : ℕ) (x : RecordSet) → j ≡ k → slice_get sets j ≡ Some x
    → slice_get sets k ≡ Some x
moved sets j k x e at = subst (λ n. slice_get sets n ≡ Some x) e at

pub at_one : (sets : List RecordSet) (i : ℕ) (x y : RecordSet) → slice_get sets i ≡ Some x
    → slice_get sets i ≡ Some y → x ≡ y
at_one sets i x y e f = grind (arith, e, f)

pub filled : (sets : List RecordSet) (k : ℕ) → k < length sets
    → (x : RecordSet) × (slice_get sets k ≡ Some x)
filled [] k lt = absurd (omega (arith, lt))
filled (set ∷ sets) zero lt = (set, refl)
filled (set ∷ sets) (suc k) lt = filled sets k (omega (arith, lt))

-- a test of equal keys
pub tied_key : (key other : SetKey) → (is_eq (key_cmp key other) ≡ true) ↔ (key ≡ other)
tied_key key other = (
  there,
  λ e. subst (λ k. is_eq (key_cmp key k)
      ≡ true) e (ap is_eq (tied_itself keys_total key)),
)
  where
    equal : (o : Ordering) → is_eq o ≡ true → o ≡ Equal
    equal Less e = absurd (grind (arith, e))
    equal Equal e = refl
    equal Greater e = absurd (grind (arith, e))

    there : is_eq (key_cmp key other) ≡ true → key ≡ other
    there e = keys_tie key other (equal (key_cmp key other) e)

-- The key of a set that isn't before a key and isn't behind it is that key.
pub key_between : (key : SetKey) (x : RecordSet) → is_before (bound.From key) x ≡ false
    → is_before (bound.Past key) x ≡ true → key_of x ≡ key
key_between key x low high = keys_tie (key_of x) key (by (key_cmp (key_of x) key) low high)
  where
    by : (o : Ordering) → is_lt o ≡ false → not (is_gt o) ≡ true → o ≡ Equal
    by Less e f = absurd (grind (arith, e))
    by Equal e f = refl
    by Greater e f = absurd (grind (arith, f))

-- a set isn't behind its own key
pub past_itself : (key : SetKey) (x : RecordSet) → key_of x ≡ key → is_before (bound.Past key) x ≡ true
past_itself key x e =
    subst (λ k. is_before (bound.Past k) x ≡ true) e (ap (λ o. not (is_gt o)) (tied_itself keys_total
    (key_of x)))

-- Orders that are total.
module _ {K : Type 0} {R : K → K → Ordering} (total : IsTotalOrder R) where
  pub up_or_tied : (x y z : K) → is_gt (R x y) ≡ false → is_gt (R y z) ≡ false
      → is_gt (R x z) ≡ false
  up_or_tied x y z low high = by (R x y) (R y z) refl refl low high
    where
      by : (o p : Ordering) → R x y ≡ o → R y z ≡ p → is_gt o ≡ false → is_gt p ≡ false
          → is_gt (R x z) ≡ false
      by Less Less e f h k = ap is_gt (total.trans x y z e f)
      by Less Equal e f h k =
          let below : R z x ≡ Greater = sym (total.congr y z x f)
          ∙ (total.antisymm y x ∙ ap ordering_reverse e) in
          ap is_gt (total.antisymm x z ∙ ap ordering_reverse below)
      by Less Greater e f h k = absurd (grind (arith, k))
      by Equal p e f h k = subst (λ o. is_gt o ≡ false) (sym (total.congr x y z e ∙ f)) k
      by Greater p e f h k = absurd (grind (arith, h))

-- the first part of an order that is not Greater is not Greater
first_part : (o p : Ordering) → is_gt (ordering_then o p) ≡ false → is_gt o ≡ false
first_part Less p e = refl
first_part Equal p e = refl
first_part Greater p e = e

not_true : (b : Bool) → not b ≡ true → b ≡ false
not_true true e = absurd (grind (arith, e))
not_true false e = refl

-- names with numbers, in order
abbrev Pair : Type 0
Pair = List (List ℕ) × ℕ

abbrev pair_cmp : Pair → Pair → Ordering
pair_cmp x y = ordering_then (zone_cmp x.0 y.0) (nat_cmp x.1 y.1)

pairs_total : IsTotalOrder pair_cmp
pairs_total =
    then_total (on_total (λ (p : Pair). p.0) zone_cmp_total)
    (on_total (λ (p : Pair). p.1) nat_cmp_total)

-- What stands before a set that stands before a bound does too.
before_too : (to : Bound) (x y : RecordSet) → key_cmp (key_of x) (key_of y) ≡ Less
    → is_before to y ≡ true → is_before to x ≡ true
before_too (bound.From key) x y lower before =
    ap is_lt (keys_total.trans (key_of x) (key_of y) key lower
    (less (key_cmp (key_of y) key) before))
before_too (bound.Past key) x y lower before =
    ap not (up_or_tied keys_total (key_of x) (key_of y) key (ap is_gt lower)
    (not_true (is_gt (key_cmp (key_of y) key)) before))
before_too (bound.PastGroup name rtype) x y lower before =
    let low : is_gt (pair_cmp (x.name, number_of x.rtype) (y.name, number_of y.rtype)) ≡ false =
    first_part _ (ident_cmp (key_of x).ident (key_of y).ident) (ap is_gt lower) in
    ap not (up_or_tied pairs_total (x.name, number_of x.rtype) (y.name, number_of y.rtype) (
      name,
      number_of rtype,
    ) low (not_true (is_gt (group_cmp y name rtype)) before))

module _ (sets : List RecordSet) (bound : Bound) (rising : IsRising sets) where
  -- before a set that stands before the bound all do
  pub all_before : (j k : ℕ) (x y : RecordSet) → j ≤ k → slice_get sets j ≡ Some x
      → slice_get sets k ≡ Some y → is_before bound y ≡ true → is_before bound x ≡ true
  all_before j k x y le at_j at_k before = by (up_to j k le)
    where
      by : (j < k) ⊎ (j ≡ k) → is_before bound x ≡ true
      by (inl lt) = before_too bound x y (rising_at sets j k x y rising lt at_j at_k) before
      by (inr e) =
          subst (λ s. is_before bound s
          ≡ true) (sym (at_one sets k x y (moved sets j k x e at_j) at_k)) before

  pub low_up : (low high m : ℕ) (x : RecordSet) → IsBracket sets bound low high → low ≤ m → m < high
      → slice_get sets m ≡ Some x → is_before bound x ≡ true
      → IsBracket sets bound (m + 1) high
  low_up low high m x b from to at_m before = record {
    order = omega (arith, to);
    within = b.within;
    before = λ k y lt at_k. all_before k m y x (omega (arith, lt)) at_k at_m before;
    behind = b.behind;
  }

  pub high_down : (low high m : ℕ) (x : RecordSet) → IsBracket sets bound low high → low ≤ m
      → m < high → slice_get sets m ≡ Some x → is_before bound x ≡ false
      → IsBracket sets bound low m
  high_down low high m x b from to at_m behind = record {
    order = from;
    within = (let w = b.within in omega (arith, w, to));
    before = b.before;
    behind = λ k y le at_k. not_before k y le at_k (is_before bound y) refl;
  }
    where
      not_before : (k : ℕ) (y : RecordSet) → m ≤ k → slice_get sets k ≡ Some y → (t : Bool)
          → is_before bound y ≡ t → is_before bound y ≡ false
      not_before k y le at_k true e =
          absurd (let t = all_before m k x y le at_m at_k e in grind (arith, t, behind))
      not_before k y le at_k false e = e

module _ (sets : List RecordSet) (key : SetKey) (rising : IsRising sets) where
  -- a key isn't before itself
  not_itself : (x : RecordSet) → key_of x ≡ key → comes_before key x ≡ true → ⊥
  not_itself x e before =
      let tie : key_cmp (key_of x) key ≡ Equal =
      subst (λ k. key_cmp (key_of x) k ≡ Equal) e (tied_itself keys_total (key_of x)) in
      grind (arith, before, ap is_lt tie)

  before_not_behind : (o : Ordering) → is_lt o ≡ true → is_gt o ≡ false
  before_not_behind Less e = refl
  before_not_behind Equal e = refl
  before_not_behind Greater e = absurd (grind (arith, e))

  -- two sets of one key are one
  one_of_key : (j k : ℕ) (x y : RecordSet) → slice_get sets j ≡ Some x → slice_get sets k ≡ Some y
      → key_of x ≡ key → key_of y ≡ key → x ≡ y
  one_of_key j k x y at_j at_k kx ky = by (below_or_not j k)
    where
      apart : (a b : ℕ) (v w : RecordSet) → a < b → slice_get sets a ≡ Some v
          → slice_get sets b ≡ Some w → key_of v ≡ key → key_of w ≡ key → ⊥
      apart a b v w lt at_a at_b kv kw =
          let lower = rising_at sets a b v w rising lt at_a at_b in
          not_itself v kv (ap is_lt (subst (λ t. key_cmp (key_of v) t ≡ Less) kw lower))

      by : (j < k) ⊎ (k ≤ j) → x ≡ y
      by (inl lt) = absurd (apart j k x y lt at_j at_k kx ky)
      by (inr le) = same (up_to k j le)
        where
          same : (k < j) ⊎ (k ≡ j) → x ≡ y
          same (inl lt) = absurd (apart k j y x lt at_k at_j ky kx)
          same (inr e) = at_one sets j x y at_j (moved sets k j y e at_k)

  pub found : (n : ℕ) (x : RecordSet) → IsCount sets (bound.From key) n → slice_get sets n ≡ Some x
      → key_of x ≡ key → FindsAt sets key n
  found n x b at_n same = record {
    kept = x;
    there = at_n;
    same_key = same;
    keeps = record { there = among_at sets n x at_n; same_key = same };
    only = λ other keeps. (let place = place_of sets other keeps.there in
        one_of_key place.0 n other x place.1 at_n keeps.same_key same);
    before = b.before;
    behind = λ k y lt at_k. above k y (omega (arith, lt)) at_k;
    front = filter_front (comes_before key) sets n b.before b.behind;
    back = filter_back (comes_behind key) sets (n + 1) up_to_it above;
  }
    where
      up_to_it : (k : ℕ) (y : RecordSet) → k < n + 1 → slice_get sets k ≡ Some y
          → comes_behind key y ≡ false
      up_to_it k y lt at_k = by (up_to k n (omega (arith, lt)))
        where
          by : (k < n) ⊎ (k ≡ n) → comes_behind key y ≡ false
          by (inl low) = before_not_behind (key_cmp (key_of y) key) (b.before k y low at_k)
          by (inr e) =
              let it : y ≡ x = at_one sets n y x (moved sets k n y e at_k) at_n in
              ap is_gt (subst (λ t. key_cmp (key_of y) t ≡ Equal) (ap key_of it
              ∙ same) (tied_itself keys_total (key_of y)))

      above : (k : ℕ) (y : RecordSet) → n + 1 ≤ k → slice_get sets k ≡ Some y
          → comes_behind key y ≡ true
      above k y le at_k =
          let lower : key_cmp key (key_of y) ≡ Less =
          subst (λ t. key_cmp t (key_of y)
          ≡ Less) same (rising_at sets n k x y rising (omega (arith, le)) at_n at_k) in
          ap is_gt (keys_total.antisymm (key_of y) key ∙ ap ordering_reverse lower)

  pub not_found : (n : ℕ) → IsCount sets (bound.From key) n
      → ((x : RecordSet) → slice_get sets n ≡ Some x → key_of x ≡ key → ⊥) → FindsNone sets key n
  not_found n b other = record {
    within = b.within;
    none = none;
    before = b.before;
    behind = above;
    front = filter_front (comes_before key) sets n b.before b.behind;
    back = filter_back (comes_behind key) sets n
        (λ k x lt at_k. before_not_behind (key_cmp (key_of x) key) (b.before k x lt at_k)) above;
  }
    where
      none : IsThere sets key → ⊥
      none (x, keeps) = by (below_or_not j n)
        where
          j : ℕ
          j = (place_of sets x keeps.there).0

          at_j : slice_get sets j ≡ Some x
          at_j = (place_of sets x keeps.there).1

          by : (j < n) ⊎ (n ≤ j) → ⊥
          by (inl lt) = not_itself x keeps.same_key (b.before j x lt at_j)
          by (inr le) = further (up_to n j le)
            where
              further : (n < j) ⊎ (n ≡ j) → ⊥
              further (inr e) = other x (moved sets j n x (sym e) at_j) keeps.same_key
              further (inl lt) =
                  let inside = slice_get_within sets j x at_j in
                  let y = filled sets n (omega (arith, lt, inside)) in
                  let lower = rising_at sets n j y.0 x rising lt y.1 at_j in
                  let before =
                  ap is_lt (subst (λ t. key_cmp (key_of y.0) t ≡ Less) keeps.same_key lower) in
                  let not_yet = b.behind n y.0 (omega arith) y.1 in
                  grind (arith, before, not_yet)

      above : (k : ℕ) (x : RecordSet) → n ≤ k → slice_get sets k ≡ Some x
          → comes_behind key x ≡ true
      above k x le at_k = by (key_cmp (key_of x) key) refl
        where
          by : (o : Ordering) → key_cmp (key_of x) key ≡ o → is_gt (key_cmp (key_of x) key) ≡ true
          by Less e =
              absurd (let t = b.behind k x le at_k in let u = ap is_lt e in grind (arith, t, u))
          by Equal e =
              absurd (none (
                x,
                record { there = among_at sets k x at_k; same_key = keys_tie (key_of x) key e },
              ))
          by Greater e = ap is_gt e
