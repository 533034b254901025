-- Sums over the sets of a zone, of which some go and others come.
use Rattle.std.proofs.Common.{◌≡◌, ◌≢◌, ℕ, zero, suc, ◌+◌, List, [], ◌∷◌, length, take, ap}
use Rattle.std.proofs.Common.{◌∙◌, sym, refl, subst, arith, inl, inr, Bool, true, false, cond, Some}
use Rattle.std.proofs.Common.{Less, Equal, Greater}
use Rattle.std.specs.Prelude.{slice_get}
use Rattle.std.specs.List.{AllByRecursion, filter, sum_by}
use Rattle.std.specs.Ordering.{is_eq, is_gt, is_lt}
use Rattle.std.specs.declared.cmp.Ordering.{Ordering}
use Rattle.std.proofs.lemmas.Cmp.{tied_itself}
use Rattle.std.proofs.lemmas.List.Sums.{sum_by-append, sum_by-cons}
use Rattle.record_set.specs.Sets.{key_of}
use Rattle.record_set.specs.declared.sets.RecordSet.{RecordSet}
use Rattle.record_set.specs.declared.sets.SetKey.{SetKey}
use Rattle.config_zones.proofs.Equation.{in_without_all, of_with_all, of_without_all}
use Rattle.config_zones.proofs.Equation.{without_all_rises}
use Rattle.config_zones.proofs.MembersOfZoneList.{in_all}
use Rattle.config_zones.specs.Changes.{AreThere, DifferByKey, IsKeyOf, with_all, without_all}
use Rattle.zone_model.proofs.Ordered.{keys_tie, keys_total}
use Rattle.zone_model.specs.Keys.{key_cmp}
use Rattle.zone_model.specs.Placing.{comes_before, comes_behind, IsThere, placed, without}
use Rattle.zone_model.specs.Zones.{IsAmong, IsRising}

-- ---- the set of a key

same : SetKey → RecordSet → Bool
same key set = is_eq (key_cmp (key_of set) key)

is_same : (key : SetKey) (set : RecordSet) → key_of set ≡ key → same key set ≡ true
unfolding same
is_same key set e =
    ap is_eq (subst (λ k. key_cmp (key_of set) k ≡ Equal) e (tied_itself keys_total (key_of set)))

not_same : (key : SetKey) (set : RecordSet) → key_of set ≢ key → same key set ≡ false
unfolding same
not_same key set other = by (key_cmp (key_of set) key) refl
  where
    by : (o : Ordering) → key_cmp (key_of set) key ≡ o
        → is_eq (key_cmp (key_of set) key) ≡ false
    by Less e = ap is_eq e
    by Equal e = absurd (other (keys_tie (key_of set) key e))
    by Greater e = ap is_eq e

none_same : (key : SetKey) (sets : List RecordSet) → (IsThere sets key → ⊥)
    → filter (same key) sets ≡ []
none_same key [] none = refl
none_same key (set ∷ sets) none =
    ap (λ b. cond b (set ∷ filter (same key) sets) (filter (same key) sets))
    (not_same key set (λ e. none (set, record { there = inl refl; same_key = e })))
    ∙ none_same key sets (λ has. none (
      has.0,
      record {
        there = inr has.1.there;
        same_key = has.1.same_key;
      },
    ))

-- a key that comes before another is not it
before_other : (key other : SetKey) → key_cmp key other ≡ Less → key ≢ other
before_other key other less e =
    let tie : key_cmp key other ≡ Equal =
    subst (λ k. key_cmp key k ≡ Equal) e (tied_itself keys_total key) in
    grind (arith, less, tie)

one_same : (key : SetKey) (sets : List RecordSet) (kept : RecordSet) → IsRising sets
    → IsAmong sets kept → key_of kept ≡ key → filter (same key) sets ≡ kept ∷ []
one_same key [] kept rising there e = absurd there
one_same key (set ∷ sets) kept rising (inl is) e =
    ap (λ b. cond b (set ∷ filter (same key) sets) (filter (same key) sets))
    (is_same key set (ap key_of is ∙ e))
    ∙ (ap (λ rest. set ∷ rest) (none_same key sets none) ∙ ap (λ (s : RecordSet). s ∷ []) is)
  where
    none : IsThere sets key → ⊥
    none has =
        before_other (key_of set) (key_of has.0)
        (in_all (λ (later : RecordSet). key_cmp (key_of set) (key_of later) ≡ Less) sets has.0
        rising.0 has.1.there)
        (ap key_of is ∙ (e ∙ sym has.1.same_key))
one_same key (set ∷ sets) kept rising (inr there) e =
    ap (λ b. cond b (set ∷ filter (same key) sets) (filter (same key) sets))
    (not_same key set (λ own. before_other (key_of set) (key_of kept)
    (in_all (λ (later : RecordSet). key_cmp (key_of set) (key_of later) ≡ Less) sets kept rising.0
    there) (own ∙ sym e)))
    ∙ one_same key sets kept rising.1 there e

-- ---- one set goes or comes

module _ (f : RecordSet → ℕ) where
  split_first : (o : Ordering) (set : RecordSet) (low high own : List RecordSet) (total : ℕ)
      → sum_by f low + sum_by f high + sum_by f own ≡ total
      → sum_by f (cond (is_lt o) (set ∷ low) low) + sum_by f (cond (is_gt o) (set ∷ high) high)
      + sum_by f (cond (is_eq o) (set ∷ own) own) ≡ f set + total
  split_first Less set low high own total e =
      let first = sum_by-cons f set low in omega (arith, first, e)
  split_first Equal set low high own total e =
      let first = sum_by-cons f set own in omega (arith, first, e)
  split_first Greater set low high own total e =
      let first = sum_by-cons f set high in omega (arith, first, e)

  split_sum : (key : SetKey) (sets : List RecordSet)
      → sum_by f (filter (comes_before key) sets) + sum_by f (filter (comes_behind key) sets)
      + sum_by f (filter (same key) sets) ≡ sum_by f sets
  unfolding same
  split_sum key [] = refl
  split_sum key (set ∷ sets) =
      split_first (key_cmp (key_of set) key) set (filter (comes_before key) sets)
      (filter (comes_behind key) sets) (filter (same key) sets) (sum_by f sets)
      (split_sum key sets)
      ∙ sym (sum_by-cons f set sets)

  pub one_gone : (key : SetKey) (sets : List RecordSet) (kept : RecordSet) → IsRising sets
      → IsAmong sets kept → key_of kept ≡ key
      → sum_by f (without key sets) + f kept ≡ sum_by f sets
  one_gone key sets kept rising there e =
      let parts = split_sum key sets in
      let both = sum_by-append f (filter (comes_before key) sets)
      (filter (comes_behind key) sets) in
      let own = ap (sum_by f) (one_same key sets kept rising there e) ∙ sum_by-cons f kept [] in
      omega (arith, parts, both, own)

  one_new : (set : RecordSet) (sets : List RecordSet) → (IsThere sets (key_of set) → ⊥)
      → sum_by f (placed set sets) ≡ sum_by f sets + f set
  one_new set sets none =
      let key = key_of set in
      let parts = split_sum key sets in
      let both = sum_by-append f (filter (comes_before key) sets)
      (set ∷ filter (comes_behind key) sets) in
      let first = sum_by-cons f set (filter (comes_behind key) sets) in
      let own = ap (sum_by f) (none_same key sets none) in
      omega (arith, parts, both, first, own)

-- ---- several sets come

none_with : (set : RecordSet) (sets : List RecordSet) (key : SetKey) → key_of set ≢ key
    → (IsThere sets key → ⊥) → IsThere (placed set sets) key → ⊥
none_with set sets key other none has = elim (of_with_all (set ∷ []) sets has.0 has.1.there) [
  | inl new ↦ elim new [
    | inl e ↦ other (ap key_of e ∙ has.1.same_key)
    | inr nothing ↦ nothing
  ]
  | inr old ↦ none (has.0, record { there = old.0; same_key = has.1.same_key })
]

-- none of the sets has a key that is there
abbrev pub AreNew : List RecordSet → (add : List RecordSet) → Type 0
AreNew sets add = AllByRecursion (λ (set : RecordSet). IsThere sets (key_of set) → ⊥) add

new_with : (set : RecordSet) (sets add : List RecordSet)
    → AllByRecursion (λ other. key_of set ≢ key_of other) add → AreNew sets add
    → AreNew (placed set sets) add
new_with set sets [] differ new = tt
new_with set sets (next ∷ add) differ new = (
  none_with set sets (key_of next) differ.0 new.0,
  new_with set sets add differ.1 new.1,
)

pub all_come : (f : RecordSet → ℕ) (add sets : List RecordSet) → DifferByKey add
    → AreNew sets add → sum_by f (with_all add sets) ≡ sum_by f sets + sum_by f add
all_come f [] sets differ new = omega arith
all_come f (set ∷ add) sets differ new =
    let rest = all_come f add (placed set sets) differ.1 (new_with set sets add differ.0 new.1) in
    let first = one_new f set sets new.0 in
    let more = sum_by-cons f set add in
    omega (arith, rest, first, more)

-- ---- several sets go

there_without : (key : SetKey) (sets : List RecordSet) (other : SetKey) → key ≢ other
    → IsThere sets other → IsThere (without key sets) other
there_without key sets other differs has = (
  has.0,
  record {
    there = in_without_all (key ∷ []) sets has.0 has.1.there (λ named. elim named [
      | inl e ↦ differs (e ∙ has.1.same_key)
      | inr nothing ↦ nothing
    ]);
    same_key = has.1.same_key;
  },
)

still_there : (key : SetKey) (sets : List RecordSet) (keys : List SetKey)
    → AllByRecursion (λ other. key ≢ other) keys → AreThere sets keys
    → AreThere (without key sets) keys
still_there key sets [] differ there = tt
still_there key sets (next ∷ keys) differ there = (
  there_without key sets next differ.0 there.0,
  there.1,
  still_there key sets keys differ.1 there.2,
)

one_less : (key : SetKey) (sets : List RecordSet) → IsRising sets → IsRising (without key sets)
one_less key sets rising = without_all_rises (key ∷ []) sets rising

gone_at : (f : RecordSet → ℕ) (keys : List SetKey) (sets : List RecordSet) (i : ℕ)
    (key : SetKey) (kept : RecordSet) → IsRising sets → AreThere sets keys
    → slice_get keys i ≡ Some key → IsAmong sets kept → key_of kept ≡ key
    → sum_by f (without_all (take (suc i) keys) sets) + f kept
    ≡ sum_by f (without_all (take i keys) sets)
gone_at f [] sets i key kept rising there at among e = absurd (grind (arith, at))
gone_at f (first ∷ keys) sets zero key kept rising there at among e =
    let is : first ≡ key = grind (arith, at) in
    one_gone f first sets kept rising among (e ∙ sym is)
gone_at f (first ∷ keys) sets (suc i) key kept rising there at among e =
    gone_at f keys (without first sets) i key kept (one_less first sets rising)
    (still_there first sets keys there.1 there.2) at
    (in_without_all (first ∷ []) sets kept among (λ named. elim named [
      | inl own ↦ other (own ∙ e)
      | inr nothing ↦ nothing
    ])) e
  where
    at_place : (ks : List SetKey) (n : ℕ) (k : SetKey)
        → AllByRecursion (λ other. first ≢ other) ks → slice_get ks n ≡ Some k → first ≢ k
    at_place [] n k differ is = absurd (grind (arith, is))
    at_place (x ∷ ks) zero k differ is = subst (λ y. first ≢ y) (grind (arith, is)) differ.0
    at_place (x ∷ ks) (suc n) k differ is = at_place ks n k differ.1 is

    other : first ≢ key
    other = at_place keys i key there.1 at

pub next_gone : (f : RecordSet → ℕ) (keys : List SetKey) (sets : List RecordSet) (i : ℕ)
    (key : SetKey) (kept : RecordSet) → IsRising sets → AreThere sets keys
    → slice_get keys i ≡ Some key → IsAmong sets kept → key_of kept ≡ key
    → sum_by f (without_all (take (i + 1) keys) sets) + f kept
    ≡ sum_by f (without_all (take i keys) sets)
next_gone f keys sets i key kept rising there at among e =
    let n : suc i ≡ i + 1 = omega arith in
    ap (λ k. sum_by f (without_all (take k keys) sets) + f kept) (sym n)
    ∙ gone_at f keys sets i key kept rising there at among e

pub as_many_gone : (keys : List SetKey) (sets : List RecordSet) → IsRising sets
    → AreThere sets keys
    → sum_by (λ (set : RecordSet). 1) (without_all keys sets) + length keys
    ≡ sum_by (λ (set : RecordSet). 1) sets
as_many_gone [] sets rising there = omega arith
as_many_gone (key ∷ keys) sets rising there =
    let rest = as_many_gone keys (without key sets) (one_less key sets rising)
    (still_there key sets keys there.1 there.2) in
    let first = one_gone (λ (set : RecordSet). 1) key sets there.0.0 rising there.0.1.there
    there.0.1.same_key in
    omega (arith, rest, first)

pub ones : (sets : List RecordSet) → sum_by (λ (set : RecordSet). 1) sets ≡ length sets
ones [] = refl
ones (set ∷ sets) =
    let first = sum_by-cons (λ (s : RecordSet). 1) set sets in
    let rest = ones sets in
    omega (arith, first, rest)

-- each of the keys has a set
pub there_at : (keys : List SetKey) (sets : List RecordSet) (i : ℕ) (key : SetKey)
    → AreThere sets keys → slice_get keys i ≡ Some key → IsThere sets key
there_at [] sets i key there at = absurd (grind (arith, at))
there_at (first ∷ keys) sets zero key there at =
    subst (IsThere sets) (grind (arith, at)) there.0
there_at (first ∷ keys) sets (suc i) key there at = there_at keys sets i key there.2 at

-- ---- a change

module _ (remove : List SetKey) (add sets : List RecordSet) (rising : IsRising sets)
    (differ : DifferByKey add)
    (new : AllByRecursion (λ set. IsThere sets (key_of set) → IsKeyOf remove (key_of set)) add) where
  abbrev pub left : List RecordSet
  left = without_all remove sets

  none_left : (set : RecordSet) → (IsThere sets (key_of set) → IsKeyOf remove (key_of set))
      → IsThere left (key_of set) → ⊥
  none_left set given has =
      let is = of_without_all remove sets has.0 has.1.there in
      is.1 (subst (IsKeyOf remove) (sym has.1.same_key)
      (given (has.0, record { there = is.0; same_key = has.1.same_key })))

  all_new : (some : List RecordSet)
      → AllByRecursion (λ set. IsThere sets (key_of set) → IsKeyOf remove (key_of set)) some
      → AreNew left some
  all_new [] given = tt
  all_new (set ∷ some) given = (none_left set given.0, all_new some given.1)

  -- what comes is added to what is left
  pub changed_sum : (f : RecordSet → ℕ) → sum_by f (with_all add left) ≡ sum_by f left + sum_by f add
  changed_sum f = all_come f add left differ (all_new add new)

  pub changed_count : AreThere sets remove
      → length (with_all add left) + length remove ≡ length sets + length add
  changed_count there =
      let come = changed_sum (λ (set : RecordSet). 1) in
      let gone = as_many_gone remove sets rising there in
      let a = ones (with_all add left) in
      let b = ones sets in
      let c = ones add in
      omega (arith, come, gone, a, b, c)
