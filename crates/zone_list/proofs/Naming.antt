-- Names of zones in zone order: parted, put, taken away, and the longest above one.
use Rattle.std.proofs.Common.{◌≡◌, ◌≢◌, ℕ, zero, suc, ◌+◌, ◌-◌, ◌<◌, ◌≤◌, List, [], ◌∷◌, ◌++◌, length, take, drop, ap, ◌∙◌, sym, refl, Bool, true, false, Some, Less, Equal, Greater, subst, arith, inl, inr}
use Rattle.std.specs.Prelude.{◌⊎◌, ◌↔◌, slice_get}
use Rattle.std.specs.List.{AllByRecursion, insert, remove}
use Rattle.std.specs.declared.cmp.Ordering.{Ordering}
use Rattle.std.specs.Ordering.{is_eq, is_gt, ordering_reverse}
use Rattle.std.proofs.lemmas.Option.{slice_get_within}
use Rattle.zone_changes.specs.Order.{zone_cmp}
use Rattle.zone_changes.specs.OrderLaws.{same_labels-Decides, zone_cmp_ties, zone_cmp_total}
use Rattle.zone_changes.specs.Suffix.{EndsWith}
use Rattle.zone_changes.specs.Existing.{IsAncestor}
use Rattle.zone_changes.specs.Zones.{IsAmong}
use Rattle.zone_changes.proofs.Among.{among_at, place_of}
use Rattle.zone_changes.proofs.ListsOfZoneModel.{all_put, all_taken, split, split_at}
use Rattle.zone_changes.proofs.Below.{below_between, ends_further, ends_itself, no_longer, not_behind, parent_or_above}
use Rattle.zone_changes.proofs.Lookups.{below_or_not, up_or_tied}
use Rattle.zone_list.specs.declared.apexes.NamedZone.{NamedZone}
use Rattle.zone_list.specs.Apexes.{AreAllAbove, AreInOrder, IsLongestName, IsParted, IsWith}

abbrev Path : Type 0
Path = List (List ℕ)

-- two names of which none is behind the other are one
name_tie : (name other : Path) → is_gt (zone_cmp name other) ≡ false
    → is_gt (zone_cmp other name) ≡ false → name ≡ other
name_tie name other low high = by (zone_cmp name other) refl low
  where
    by : (o : Ordering) → zone_cmp name other ≡ o → is_gt (zone_cmp name other) ≡ false → name ≡ other
    by Less e f =
        let back : is_gt (zone_cmp other name) ≡ true =
        ap is_gt (zone_cmp_total.antisymm other name ∙ ap ordering_reverse e) in
        absurd (grind (arith, back, high))
    by Equal e f =
        (same_labels-Decides name other).0 (zone_cmp_ties name other ∙ ap is_eq e)
    by Greater e f = absurd (let g = ap is_gt e in grind (arith, f, g))

all_at : (P : NamedZone → Type 0) (list : List NamedZone) (k : ℕ) (x : NamedZone) → AllByRecursion P list
    → slice_get list k ≡ Some x → P x
all_at P [] k x all e = absurd (grind (arith, e))
all_at P (y ∷ list) zero x all e = subst P (grind (arith, e)) all.0
all_at P (y ∷ list) (suc k) x all e = all_at P list k x all.1 e

-- of two names the one in front comes before
pub rising_at : (list : List NamedZone) (j k : ℕ) (x y : NamedZone) → AreInOrder list → j < k
    → slice_get list j ≡ Some x → slice_get list k ≡ Some y → zone_cmp x.name y.name ≡ Less
rising_at [] j k x y order lt at_j at_k = absurd (grind (arith, at_j))
rising_at (z ∷ list) zero zero x y order lt at_j at_k = absurd (omega (arith, lt))
rising_at (z ∷ list) zero (suc k) x y order lt at_j at_k =
    let same : z ≡ x = grind (arith, at_j) in
    subst (λ (w : NamedZone). zone_cmp w.name y.name ≡ Less) same
    (all_at (λ other. zone_cmp z.name other.name ≡ Less) list k y order.0 at_k)
rising_at (z ∷ list) (suc j) zero x y order lt at_j at_k = absurd (omega (arith, lt))
rising_at (z ∷ list) (suc j) (suc k) x y order lt at_j at_k =
    rising_at list j k x y order.1 (omega (arith, lt)) at_j at_k

one_at : (list : List NamedZone) (k : ℕ) (x y : NamedZone) → slice_get list k ≡ Some x
    → slice_get list k ≡ Some y → x ≡ y
one_at list k x y e f = grind (arith, e, f)

pub there : (list : List NamedZone) (k : ℕ) → k < length list → (x : NamedZone) × (slice_get list k ≡ Some x)
there [] k lt = absurd (omega (arith, lt))
there (x ∷ list) zero lt = (x, refl)
there (x ∷ list) (suc k) lt = there list k (omega (arith, lt))

up_to : (j k : ℕ) → j ≤ k → (j < k) ⊎ (j ≡ k)
up_to zero zero le = inr refl
up_to zero (suc k) le = inl (omega arith)
up_to (suc j) zero le = absurd (omega (arith, le))
up_to (suc j) (suc k) le = elim (up_to j k (omega (arith, le))) [
  | inl lt ↦ inl (omega (arith, lt))
  | inr e ↦ inr (ap suc e)
]

-- what stands in front isn't behind
in_front : (list : List NamedZone) (j k : ℕ) (x y : NamedZone) → AreInOrder list → j ≤ k
    → slice_get list j ≡ Some x → slice_get list k ≡ Some y → is_gt (zone_cmp x.name y.name) ≡ false
in_front list j k x y order le at_j at_k = by (up_to j k le)
  where
    by : (j < k) ⊎ (j ≡ k) → is_gt (zone_cmp x.name y.name) ≡ false
    by (inl lt) = ap is_gt (rising_at list j k x y order lt at_j at_k)
    by (inr e) =
        let same : x ≡ y =
        one_at list k x y (subst (λ n. slice_get list n ≡ Some x) e at_j) at_k in
        not_behind x.name y.name ([], ap (λ (a : NamedZone). a.name) (sym same))

-- ---- parted by a name

pub all_between : (list : List NamedZone) (name : Path) → IsParted list name 0 (length list)
all_between list name = record {
  order = omega arith;
  within = omega arith;
  before = λ k x lt at. absurd (omega (arith, lt));
  behind =
      λ k x le at. absurd (let within = slice_get_within list k x at in omega (arith, le, within));
}

module _ (list : List NamedZone) (name : Path) (order : AreInOrder list) (low high m : ℕ)
    (parted : IsParted list name low high) (from : low ≤ m) (to : m < high) (y : NamedZone)
    (at_m : slice_get list m ≡ Some y) where
  pub part_up : is_gt (zone_cmp y.name name) ≡ false → IsParted list name (m + 1) high
  part_up before = record {
    order = omega (arith, to);
    within = parted.within;
    before = λ k x lt at_k. up_or_tied zone_cmp_total x.name y.name name
        (in_front list k m x y order (omega (arith, lt)) at_k at_m) before;
    behind = parted.behind;
  }

  pub part_down : is_gt (zone_cmp y.name name) ≡ true → IsParted list name low m
  part_down behind = record {
    order = from;
    within = (let w = parted.within in omega (arith, w, to));
    before = parted.before;
    behind = λ k x le at_k. still k x le at_k (is_gt (zone_cmp x.name name)) refl;
  }
    where
      still : (k : ℕ) (x : NamedZone) → m ≤ k → slice_get list k ≡ Some x → (b : Bool)
          → is_gt (zone_cmp x.name name) ≡ b → is_gt (zone_cmp x.name name) ≡ true
      still k x le at_k true e = e
      still k x le at_k false e =
          let low_too = up_or_tied zone_cmp_total y.name x.name name
          (in_front list m k y x order le at_m at_k) e in
          absurd (grind (arith, low_too, behind))

-- ---- the longest name above one

module _ (list : List NamedZone) (name : Path) (order : AreInOrder list) (n : ℕ) (apex : NamedZone)
    (at : slice_get list n ≡ Some apex) (above : EndsWith name apex.name)
    (past : (k : ℕ) (other : NamedZone) → n < k → slice_get list k ≡ Some other → EndsWith name other.name → ⊥) where
  -- a name above one with none behind it is the longest
  pub longest_here : IsLongestName list name apex.id
  longest_here = record {
    apex = apex;
    there = among_at list n apex at;
    its_id = refl;
    above = above;
    longest = λ other is ends.
        (let place = place_of list other is in shorter other place.0 place.1 ends);
  }
    where
      shorter : (other : NamedZone) (k : ℕ) → slice_get list k ≡ Some other → EndsWith name other.name
          → length other.name ≤ length apex.name
      shorter other k at_k ends = by (below_or_not n k)
        where
          by : (n < k) ⊎ (k ≤ n) → length other.name ≤ length apex.name
          by (inl lt) = absurd (past k other lt at_k ends)
          by (inr le) =
              no_longer apex.name other.name
              (below_between other.name apex.name name ends
              (in_front list k n other apex order le at_k at)
              (not_behind apex.name name above))

module _ (list : List NamedZone) (name : Path) (order : AreInOrder list) (n : ℕ)
    (parted : IsParted list name n n) where
  -- none behind the place is above the name
  none_past : (k : ℕ) (other : NamedZone) → n ≤ k → slice_get list k ≡ Some other
      → EndsWith name other.name → ⊥
  none_past k other le at ends =
      let up = parted.behind k other le at in
      let low = not_behind other.name name ends in
      grind (arith, up, low)

  pub found_nearest : (apex : NamedZone) → 0 < n → slice_get list (n - 1) ≡ Some apex
      → EndsWith name apex.name → IsLongestName list name apex.id
  found_nearest apex some at above =
      longest_here list name order (n - 1) apex at above
      (λ k other lt at_k ends. none_past k other (omega (arith, lt)) at_k ends)

  pub none_there : n ≡ 0 → (apex : NamedZone) → IsAmong list apex → apex.name ≢ name
  none_there e apex is same =
      let place = place_of list apex is in
      none_past place.0 apex (omega (arith, e)) place.1 ([], sym same)

  -- where the name in front of the place isn't above, the name isn't there
  pub not_there : (y : NamedZone) → 0 < n → slice_get list (n - 1) ≡ Some y → (EndsWith name y.name → ⊥)
      → (apex : NamedZone) → IsAmong list apex → apex.name ≢ name
  not_there y some at_y none apex is same =
      let place = place_of list apex is in by place.0 place.1 (below_or_not place.0 n)
    where
      by : (k : ℕ) → slice_get list k ≡ Some apex → (k < n) ⊎ (n ≤ k) → ⊥
      by k at_k (inr le) = none_past k apex le at_k ([], sym same)
      by k at_k (inl lt) =
          let low : is_gt (zone_cmp name y.name) ≡ false =
          subst (λ p. is_gt (zone_cmp p y.name) ≡ false) same
          (in_front list k (n - 1) apex y order (omega (arith, lt)) at_k at_y) in
          let up = parted.before (n - 1) y (omega (arith, some)) at_y in
          none (subst (λ p. EndsWith name p) (name_tie name y.name low up) (ends_itself name))

-- ---- looked for upwards

pub begun : (list : List NamedZone) (name : Path) → ((apex : NamedZone) → IsAmong list apex → apex.name ≢ name)
    → AreAllAbove list name name
begun list name none = record {
  suffix = ends_itself name;
  above = λ apex is ends. (ends, λ e. none apex is (sym e));
}

module _ (list : List NamedZone) (name rest : Path) (all : AreAllAbove list name rest) (label : List ℕ)
    (parent : Path) (is : rest ≡ label ∷ parent) where
  of_parent : (apex : NamedZone) → IsAmong list apex → EndsWith name apex.name → EndsWith parent apex.name
  of_parent apex there ends =
      parent_or_above label parent apex.name
      (subst (λ r. IsAncestor r apex.name) is (all.above apex there ends))

  suffix : EndsWith name parent
  suffix =
      ends_further name rest parent all.suffix
      (subst (λ r. EndsWith r parent) (sym is) (label ∷ [], refl))

  pub found_above : (id : ℕ) → IsLongestName list parent id → IsLongestName list name id
  found_above id found = record {
    apex = found.apex;
    there = found.there;
    its_id = found.its_id;
    above = ends_further name parent found.apex.name suffix found.above;
    longest = λ other there ends. found.longest other there (of_parent other there ends);
  }

  pub gone_up : ((apex : NamedZone) → IsAmong list apex → apex.name ≢ parent)
      → AreAllAbove list name parent
  gone_up none = record {
    suffix = suffix;
    above = λ apex there ends. (of_parent apex there ends, λ e. none apex there (sym e));
  }

pub ended : (list : List NamedZone) (name rest : Path) → AreAllAbove list name rest → rest ≡ []
    → (apex : NamedZone) → IsAmong list apex → EndsWith name apex.name → ⊥
ended list name rest all e apex there ends =
    empty_apart apex.name (subst (λ r. IsAncestor r apex.name) e (all.above apex there ends))
  where
    empty_apart : (other : Path) → IsAncestor [] other → ⊥
    empty_apart [] (first, apart) = apart refl
    empty_apart (label ∷ other) (([], f), apart) = grind (arith, f)
    empty_apart (label ∷ other) ((x ∷ first, f), apart) = grind (arith, f)

-- ---- put

all_by : (P : NamedZone → Type 0) (list : List NamedZone)
    → ((k : ℕ) (x : NamedZone) → slice_get list k ≡ Some x → P x) → AllByRecursion P list
all_by P [] f = tt
all_by P (x ∷ list) f = (f 0 x refl, all_by P list (λ k y at. f (suc k) y at))

put_by : (list : List NamedZone) (n : ℕ) (apex : NamedZone) → AreInOrder list
    → ((k : ℕ) (x : NamedZone) → k < n → slice_get list k ≡ Some x → zone_cmp x.name apex.name ≡ Less)
    → ((k : ℕ) (x : NamedZone) → n ≤ k → slice_get list k ≡ Some x → zone_cmp apex.name x.name ≡ Less)
    → AreInOrder (insert list n apex)
put_by [] zero apex order low high = (tt, tt)
put_by [] (suc n) apex order low high = (tt, tt)
put_by (y ∷ list) zero apex order low high =
    (all_by (λ x. zone_cmp apex.name x.name ≡ Less) (y ∷ list) (λ k x at. high k x (omega arith) at), order)
put_by (y ∷ list) (suc n) apex order low high = (
  all_put (λ x. zone_cmp y.name x.name ≡ Less) (take n list) (drop n list) apex
      (subst (λ xs. AllByRecursion (λ x. zone_cmp y.name x.name ≡ Less) xs) (split n list) order.0)
      (low 0 y (omega arith) refl),
  put_by list n apex order.1 (λ k x lt at. low (suc k) x (omega (arith, lt)) at)
      (λ k x le at. high (suc k) x (omega (arith, le)) at),
)

turned : (o : Ordering) → is_gt o ≡ true → ordering_reverse o ≡ Less
turned Less e = absurd (grind (arith, e))
turned Equal e = absurd (grind (arith, e))
turned Greater e = refl

module _ (list : List NamedZone) (order : AreInOrder list) (n : ℕ) (apex : NamedZone)
    (parted : IsParted list apex.name n n)
    (new : (y : NamedZone) → 0 < n → slice_get list (n - 1) ≡ Some y → y.name ≢ apex.name) where
  strictly : (k : ℕ) (x : NamedZone) → k < n → slice_get list k ≡ Some x
      → zone_cmp x.name apex.name ≡ Less
  strictly k x lt at = by (zone_cmp x.name apex.name) refl (parted.before k x lt at)
    where
      within : n - 1 < length list
      within = let w = parted.within in omega (arith, w, lt)

      last : (y : NamedZone) × (slice_get list (n - 1) ≡ Some y)
      last = there list (n - 1) within

      by : (o : Ordering) → zone_cmp x.name apex.name ≡ o → is_gt (zone_cmp x.name apex.name) ≡ false
          → zone_cmp x.name apex.name ≡ Less
      by Less e f = e
      by Greater e f = absurd (let g = ap is_gt e in grind (arith, f, g))
      by Equal e f =
          let same : x.name ≡ apex.name =
          name_tie x.name apex.name f
          (ap is_gt (zone_cmp_total.antisymm apex.name x.name ∙ ap ordering_reverse e)) in
          let low : is_gt (zone_cmp apex.name last.0.name) ≡ false =
          subst (λ p. is_gt (zone_cmp p last.0.name) ≡ false) same
          (in_front list k (n - 1) x last.0 order (omega (arith, lt)) at last.1) in
          let up = parted.before (n - 1) last.0 (omega (arith, lt)) last.1 in
          absurd (new last.0 (omega (arith, lt)) last.1 (name_tie last.0.name apex.name up low))

  pub put_order : AreInOrder (insert list n apex)
  put_order = put_by list n apex order strictly (λ k x le at.
      zone_cmp_total.antisymm apex.name x.name
      ∙ turned (zone_cmp x.name apex.name) (parted.behind k x le at))

-- among those before and behind
among_front : (front back : List NamedZone) (x other : NamedZone) → IsAmong (front ++ x ∷ back) other
    ↔ IsAmong (x ∷ (front ++ back)) other
among_front [] back x other = (λ h. h, λ h. h)
among_front (y ∷ front) back x other =
    let rest = among_front front back x other in (
      (λ h. elim h [
        | inl e ↦ inr (inl e)
        | inr t ↦ elim (rest.0 t) [ inl e ↦ inl e | inr u ↦ inr (inr u) ]
      ]),
      λ h. elim h [
        | inl e ↦ inr (rest.1 (inl e))
        | inr t ↦ elim t [ inl e ↦ inl e | inr u ↦ inr (rest.1 (inr u)) ]
      ],
    )

pub put_with : (list : List NamedZone) (n : ℕ) (apex : NamedZone) → IsWith list apex (insert list n apex)
put_with list n apex = λ other.
    subst (λ xs. IsAmong (insert list n apex) other ↔ IsAmong (apex ∷ xs) other)
    (sym (split n list)) (among_front (take n list) (drop n list) apex other)

-- ---- taken away

taken_by : (front back : List NamedZone) (x : NamedZone) → AreInOrder (front ++ x ∷ back)
    → AreInOrder (front ++ back)
taken_by [] back x order = order.1
taken_by (y ∷ front) back x order = (
  all_taken (λ z. zone_cmp y.name z.name ≡ Less) front back x order.0,
  taken_by front back x order.1,
)

module _ (list : List NamedZone) (n : ℕ) (apex : NamedZone) (at : slice_get list n ≡ Some apex) where
  pub taken_order : AreInOrder list → AreInOrder (remove list n)
  taken_order order =
      taken_by (take n list) (drop (suc n) list) apex
      (subst AreInOrder (split_at list n apex at) order)

  -- all others stay
  pub taken_others : (other : NamedZone) → other.id ≢ apex.id
      → IsAmong (remove list n) other ↔ IsAmong list other
  taken_others other apart =
      let both : IsAmong list other ↔ IsAmong (apex ∷ remove list n) other =
      subst (λ xs. IsAmong xs other ↔ IsAmong (apex ∷ remove list n) other)
      (sym (split_at list n apex at))
      (among_front (take n list) (drop (suc n) list) apex other) in (
        (λ h. both.1 (inr h)),
        λ h. elim (both.0 h) [
          | inl e ↦ absurd (apart (ap (λ (a : NamedZone). a.id) (sym e)))
          | inr t ↦ t
        ],
      )

-- a name above one, where the next isn't below it, is the longest
module _ (list : List NamedZone) (name : Path) (order : AreInOrder list) (n : ℕ) (apex : NamedZone)
    (at : slice_get list n ≡ Some apex) (above : EndsWith name apex.name)
    (last : (next : NamedZone) → slice_get list (n + 1) ≡ Some next → EndsWith next.name apex.name → ⊥) where
  pub last_is_longest : IsLongestName list name apex.id
  last_is_longest = longest_here list name order n apex at above past
    where
      past : (k : ℕ) (other : NamedZone) → n < k → slice_get list k ≡ Some other
          → EndsWith name other.name → ⊥
      past k other lt at_k ends =
          let inside = slice_get_within list k other at_k in
          let next = there list (n + 1) (omega (arith, lt, inside)) in
          last next.0 next.1
          (below_between apex.name next.0.name name above
          (in_front list n (n + 1) apex next.0 order (omega arith) at next.1)
          (up_or_tied zone_cmp_total next.0.name other.name name
          (in_front list (n + 1) k next.0 other order (omega (arith, lt)) next.1 at_k)
          (not_behind other.name name ends)))

-- none has the number, once all places were looked at
pub none_of : (list : List NamedZone) (id n : ℕ) → length list ≤ n
    → ((k : ℕ) (apex : NamedZone) → k < n → slice_get list k ≡ Some apex → apex.id ≢ id)
    → (apex : NamedZone) → IsAmong list apex → apex.id ≢ id
none_of list id n all none apex is =
    let place = place_of list apex is in
    let inside = slice_get_within list place.0 apex place.1 in
    none place.0 apex (omega (arith, inside, all)) place.1
