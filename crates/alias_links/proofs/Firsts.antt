-- The least key of sets in zone order is that of the first of them.
use Rattle.std.proofs.Common.{◌≡◌, ◌≢◌, ℕ, zero, suc, ◌<◌, List, Some, None, Option, ap, ◌∙◌, sym, subst, refl}
use Rattle.std.proofs.Common.{Less, Equal, Greater, arith, inl, inr}
use Rattle.std.specs.Prelude.{slice_get, ◌⊎◌}
use Rattle.std.specs.Ordering.{ordering_reverse}
use Rattle.std.specs.declared.cmp.Ordering.{Ordering}
use Rattle.std.proofs.lemmas.Cmp.{tied_itself}
use Rattle.alias_tree.specs.Firsts.{IsFirstPlace, NoneBefore}
use Rattle.record_set.specs.Sets.{key_of}
use Rattle.record_set.specs.declared.sets.RecordSet.{RecordSet}
use Rattle.record_set.specs.declared.sets.SetKey.{SetKey}
use Rattle.zone_table.proofs.Among.{among_at, place_of}
use Rattle.zone_table.proofs.Ordered.{keys_tie, keys_total}
use Rattle.zone_table.proofs.Places.{rising_at}
use Rattle.zone_table.specs.Keys.{key_cmp}
use Rattle.zone_table.specs.Sets.{IsAmong, IsRising}
use Rattle.alias_links.specs.After.{IsFirstKey, IsFirstSet}
use Rattle.alias_links.specs.Leasts.{IsLeast, IsLesser, LeastOrNone}

-- ---- the order of keys

-- a key that isn't greater is less, or the same
not_greater : (o : Ordering) → o ≢ Greater → (o ≡ Less) ⊎ (o ≡ Equal)
not_greater Less not = inl refl
not_greater Equal not = inr refl
not_greater Greater not = absurd (not refl)

less_back : (key other : SetKey) → key_cmp key other ≡ Less → key_cmp other key ≡ Greater
less_back key other less = keys_total.antisymm other key ∙ ap ordering_reverse less

pub not_back : (key other : SetKey) → key_cmp key other ≡ Greater → key_cmp other key ≢ Greater
not_back key other more =
    let back : key_cmp other key ≡ Less = keys_total.antisymm other key ∙ ap ordering_reverse more in
    λ e. grind (arith, back, e)

-- no key is greater than itself
pub not_above_itself : (key other : SetKey) → key ≡ other → key_cmp key other ≢ Greater
not_above_itself key other same more =
    let tie : key_cmp key other ≡ Equal =
    subst (λ (k : SetKey). key_cmp key k ≡ Equal) same (tied_itself keys_total key) in
    grind (arith, tie, more)

-- not greater than one that is not greater than a third
pub not_greater_than : (a b c : SetKey) → key_cmp a b ≢ Greater → key_cmp b c ≢ Greater
    → key_cmp a c ≢ Greater
not_greater_than a b c ab bc = elim (not_greater (key_cmp a b) ab) [
  | inr same ↦ subst (λ (k : SetKey). key_cmp k c ≢ Greater) (sym (keys_tie a b same)) bc
  | inl less ↦ elim (not_greater (key_cmp b c) bc) [
    | inr tie ↦ subst (λ (k : SetKey). key_cmp a k ≢ Greater) (keys_tie b c tie) ab
    | inl later ↦
        (let whole = keys_total.trans a b c less later in λ e. grind (arith, whole, e))
  ]
]

-- ---- places

in_order : (m n : ℕ) → (m < n) ⊎ ((m ≡ n) ⊎ (n < m))
in_order zero zero = inr (inl refl)
in_order zero (suc n) = inl (omega arith)
in_order (suc m) zero = inr (inr (omega arith))
in_order (suc m) (suc n) = elim (in_order m n) [
  | inl lt ↦ inl (omega (arith, lt))
  | inr rest ↦ elim rest [ inl e ↦ inr (inl (ap suc e)) | inr gt ↦ inr (inr (omega (arith, gt))) ]
]

module _ (Has : RecordSet → Type 0) (sets : List RecordSet) (rising : IsRising sets) where
  -- no set of a lower key has it
  pub first_of_least : (key : SetKey) → IsLeast Has sets key → IsFirstSet Has sets key
  first_of_least key least =
      let at = place_of sets least.set least.there in
      record {
        place = at.0;
        first = ((least.set, at.1, least.has), none at.0 at.1);
        set = least.set;
        there = at.1;
        same_key = least.same_key;
      }
    where
      none : (n : ℕ) → slice_get sets n ≡ Some least.set → NoneBefore Has sets n
      none n here i lt (set, at, has) =
          let less = rising_at sets i n set least.set rising lt at here in
          let more : key_cmp (key_of least.set) (key_of set) ≡ Greater =
          less_back (key_of set) (key_of least.set) less in
          least.least set (among_at sets i set at) has
          (subst (λ (k : SetKey). key_cmp k (key_of set) ≡ Greater) least.same_key more)

  pub first_key : (found : Option SetKey) → LeastOrNone Has sets found → IsFirstKey Has sets found
  first_key None none = λ i lt has. none has.0 (among_at sets i has.0 has.1) has.2
  first_key (Some key) least = first_of_least key least

  -- the first place's key is the least
  pub least_of_first : (n : ℕ) (set : RecordSet) → slice_get sets n ≡ Some set
      → IsFirstPlace Has sets (Some n) → IsLeast Has sets (key_of set)
  least_of_first n set here first =
      record {
        set = set;
        there = among_at sets n set here;
        has = has_it;
        same_key = refl;
        least = λ other there has.
            let at = place_of sets other there in above at.0 other at.1 has (in_order at.0 n);
      }
    where
      has_it : Has set
      has_it =
          let one : first.0.0 ≡ set = grind (arith, here, first.0.1) in
          subst Has one first.0.2

      above : (m : ℕ) (other : RecordSet) → slice_get sets m ≡ Some other → Has other
          → (m < n) ⊎ ((m ≡ n) ⊎ (n < m)) → key_cmp (key_of set) (key_of other) ≢ Greater
      above m other at has (inl before) = absurd (first.1 m before (other, at, has))
      above m other at has (inr (inl e)) =
          let one : set ≡ other = grind (arith, here, at, e) in
          let tie : key_cmp (key_of set) (key_of set) ≡ Equal = tied_itself keys_total (key_of set) in
          λ more. (let same : key_cmp (key_of set) (key_of set) ≡ Greater =
          subst (λ (s : RecordSet). key_cmp (key_of set) (key_of s) ≡ Greater) (sym one) more in
          grind (arith, tie, same))
      above m other at has (inr (inr behind)) =
          let less = rising_at sets n m set other rising behind here at in
          λ more. grind (arith, less, more)

-- ---- of two lists

-- The lesser of the least keys of two lists is the least of the sets of both.
module _ (Has First Second : RecordSet → Type 0) (sets ones others : List RecordSet)
    (from_ones : (set : RecordSet) → IsAmong ones set → First set → IsAmong sets set × Has set)
    (from_others : (set : RecordSet) → IsAmong others set → Second set → IsAmong sets set × Has set)
    (of_sets : (set : RecordSet) → IsAmong sets set → Has set
    → (IsAmong ones set × First set) ⊎ (IsAmong others set × Second set)) where
  pub least_of_both : (one other found : Option SetKey) → LeastOrNone First ones one
      → LeastOrNone Second others other → IsLesser one other found → LeastOrNone Has sets found
  least_of_both None other found first second e =
      subst (λ (k : Option SetKey). LeastOrNone Has sets k) (sym e) (by other second)
    where
      by : (other : Option SetKey) → LeastOrNone Second others other → LeastOrNone Has sets other
      by None none = λ set there has. elim (of_sets set there has) [
        | inl is ↦ first set is.0 is.1
        | inr is ↦ none set is.0 is.1
      ]
      by (Some key) least = record {
        set = least.set;
        there = (from_others least.set least.there least.has).0;
        has = (from_others least.set least.there least.has).1;
        same_key = least.same_key;
        least = λ set there has. elim (of_sets set there has) [
          | inl is ↦ absurd (first set is.0 is.1)
          | inr is ↦ least.least set is.0 is.1
        ];
      }
  least_of_both (Some key) None found first second e =
      subst (λ (k : Option SetKey). LeastOrNone Has sets k) (sym e) (record {
        set = first.set;
        there = (from_ones first.set first.there first.has).0;
        has = (from_ones first.set first.there first.has).1;
        same_key = first.same_key;
        least = λ set there has. elim (of_sets set there has) [
          | inl is ↦ first.least set is.0 is.1
          | inr is ↦ absurd (second set is.0 is.1)
        ];
      })
  least_of_both (Some key) (Some other) None first second e = absurd e
  least_of_both (Some key) (Some other) (Some found) first second (inl e) =
      subst (λ (k : SetKey). IsLeast Has sets k) (sym e.0) (record {
        set = first.set;
        there = (from_ones first.set first.there first.has).0;
        has = (from_ones first.set first.there first.has).1;
        same_key = first.same_key;
        least = λ set there has. elim (of_sets set there has) [
          | inl is ↦ first.least set is.0 is.1
          | inr is ↦ not_greater_than key other (key_of set) e.1 (second.least set is.0 is.1)
        ];
      })
  least_of_both (Some key) (Some other) (Some found) first second (inr e) =
      subst (λ (k : SetKey). IsLeast Has sets k) (sym e.0) (record {
        set = second.set;
        there = (from_others second.set second.there second.has).0;
        has = (from_others second.set second.there second.has).1;
        same_key = second.same_key;
        least = λ set there has. elim (of_sets set there has) [
          | inl is ↦ not_greater_than other key (key_of set) e.1 (first.least set is.0 is.1)
          | inr is ↦ second.least set is.0 is.1
        ];
      })
