-- Of the locations that sets name the least is the same in whichever order they are told.
use Rattle.std.proofs.Common.{◌≡◌, ◌≢◌, ◌⊎◌, ℕ, Bool, true, false, cond, List, [], ◌∷◌, map, Option, None, Some, Result, Ok, Err, Ordering, Less, Equal, Greater, inl, inr, ap, ◌∙◌, sym, refl, subst}
use Rattle.std.specs.Prelude.{◌||◌, nat_lt, length, option_map, Contains}
use Rattle.std.specs.Cmp.{tied_itself}
use Rattle.std.specs.Cmp.Lexicographic.{nat_list_cmp_total}
use Rattle.std.specs.List.{filter, list_any}
use Rattle.std.specs.Ordering.{match_ordering, ordering_reverse}
use Rattle.std.proofs.lemmas.Map.Lookups.{exact_bytes}
use Rattle.cidr_changes.specs.declared.faults.CidrFault.{CidrFault}
use Rattle.cidr_changes.specs.declared.faults.CidrFault.TheVariants.{TooManyCidrBlocks, CidrLocationInUse}
use Rattle.cidr_blocks.specs.declared.places.CidrLocation.{CidrLocation}
use Rattle.cidr_blocks.specs.declared.places.Collection.{Collection}
use Rattle.cidr_blocks.specs.Places.{name_cmp}
use Rattle.cidr_changes.specs.Changed.{after_changes, finished, is_unplaced, least, lesser, unplaced, with_locations}
use Rattle.cidr_changes.specs.Changes.{Rows}
use Rattle.cidr_changes.specs.Gathered.{locations_of}
use Rattle.cidr_blocks.specs.Listing.{SameMembers}
use Rattle.cidr_changes.specs.Laws.{OnlyNamedCount}
use Rattle.cidr_changes.specs.Refusals.{first_of, refuse_if, unless}
use Rattle.cidr_blocks.proofs.Elements.{first, later, none, which}

abbrev Text : Type 0
Text = List ℕ

-- what a list of elements that pass a test comes from
module _ {X Y : Type 0} (test : X → Bool) (of : X → Y) where
  abbrev kept : List X → List Y
  kept xs = map of (filter test xs)

  pub record Comes (xs : List X) (y : Y) : Type 0 where
    pub from : X
    pub there : Contains xs from
    pub passes : test from ≡ true
    pub is : of from ≡ y

  further : (x : X) (xs : List X) (y : Y) → Comes xs y → Comes (x ∷ xs) y
  further x xs y comes = record {
    from = comes.from;
    there = later x comes.from xs comes.there;
    passes = comes.passes;
    is = comes.is;
  }

  here : (x : X) (xs : List X) (y : Y) → test x ≡ true → of x ≡ y → Comes (x ∷ xs) y
  here x xs y passes is = record { from = x; there = first x xs; passes = passes; is = is }

  comes_by : (b : Bool) (x : X) (xs : List X) (y : Y) → test x ≡ b
      → (Contains (kept xs) y → Comes xs y)
      → Contains (map of (cond b (x ∷ filter test xs) (filter test xs))) y → Comes (x ∷ xs) y
  comes_by true x xs y e rest c = either (which (of x) y (kept xs) c)
    where
      either : (of x ≡ y) ⊎ Contains (kept xs) y → Comes (x ∷ xs) y
      either (inl is) = here x xs y e is
      either (inr d) = further x xs y (rest d)
  comes_by false x xs y e rest c = further x xs y (rest c)

  comes : (xs : List X) (y : Y) → Contains (kept xs) y → Comes xs y
  comes [] y c = absurd (none y c)
  comes (x ∷ xs) y c = comes_by (test x) x xs y refl (comes xs y) c

  stays_by : (b : Bool) (x : X) (xs : List X) (z : X) → test x ≡ b → test z ≡ true
      → (Contains xs z → Contains (kept xs) (of z)) → (x ≡ z) ⊎ Contains xs z
      → Contains (map of (cond b (x ∷ filter test xs) (filter test xs))) (of z)
  stays_by true x xs z e passes rest (inl same) =
      subst (λ w. Contains (of x ∷ kept xs) (of w)) same (first (of x) (kept xs))
  stays_by true x xs z e passes rest (inr c) = later (of x) (of z) (kept xs) (rest c)
  stays_by false x xs z e passes rest (inl same) =
      absurd (let f : test x ≡ true = subst (λ w. test w ≡ true) (sym same) passes in
      let no : ⊥ = cc in no)
  stays_by false x xs z e passes rest (inr c) = rest c

  stays : (xs : List X) (z : X) → test z ≡ true → Contains xs z → Contains (kept xs) (of z)
  stays [] z passes c = absurd (none z c)
  stays (x ∷ xs) z passes c =
      stays_by (test x) x xs z refl passes (stays xs z passes) (which x z xs c)

  moved : (xs ys : List X) (y : Y) → ((x : X) → Contains xs x → Contains ys x)
      → Contains (kept xs) y → Contains (kept ys) y
  moved xs ys y to c =
      let at = comes xs y c in
      subst (Contains (kept ys)) at.is (stays ys at.from at.passes (to at.from at.there))

  pub same_kept : (xs ys : List X) → SameMembers xs ys → SameMembers (kept xs) (kept ys)
  same_kept xs ys same y =
      (moved xs ys y (λ x. (same x).0), moved ys xs y (λ x. (same x).1))

-- whether any passes a test
module _ {X : Type 0} (test : X → Bool) where
  any_by : (b : Bool) (x : X) (xs : List X) (z : X) → test x ≡ b → test z ≡ true
      → (Contains xs z → list_any test xs ≡ true) → (x ≡ z) ⊎ Contains xs z
      → (b || list_any test xs) ≡ true
  any_by true x xs z e passes rest s = refl
  any_by false x xs z e passes rest (inl same) =
      absurd (let f : test x ≡ true = subst (λ w. test w ≡ true) (sym same) passes in
      let no : ⊥ = cc in no)
  any_by false x xs z e passes rest (inr c) = rest c

  pub any_of : (xs : List X) (z : X) → test z ≡ true → Contains xs z → list_any test xs ≡ true
  any_of [] z passes c = absurd (none z c)
  any_of (x ∷ xs) z passes c =
      any_by (test x) x xs z refl passes (any_of xs z passes) (which x z xs c)

  some_by : (b : Bool) (x : X) (xs ys : List X) → test x ≡ b → Contains ys x
      → (list_any test xs ≡ true → list_any test ys ≡ true)
      → (b || list_any test xs) ≡ true → list_any test ys ≡ true
  some_by true x xs ys e there rest any = any_of ys x e there
  some_by false x xs ys e there rest any = rest any

  some : (xs ys : List X) → ((x : X) → Contains xs x → Contains ys x) → list_any test xs ≡ true
      → list_any test ys ≡ true
  some [] ys to any = absurd (let no : ⊥ = cc in no)
  some (x ∷ xs) ys to any =
      some_by (test x) x xs ys refl (to x (first x xs))
      (some xs ys (λ z c. to z (later x z xs c))) any

  one_by : (a b : Bool) → (a ≡ true → b ≡ true) → (b ≡ true → a ≡ true) → a ≡ b
  one_by true b to from = sym (to refl)
  one_by false true to from = from refl
  one_by false false to from = refl

  pub same_any : (xs ys : List X) → SameMembers xs ys → list_any test xs ≡ list_any test ys
  same_any xs ys same =
      one_by (list_any test xs) (list_any test ys) (some xs ys (λ x. (same x).0))
      (some ys xs (λ x. (same x).1))

-- the first of two names by bytes is no greater
abbrev IsNoGreater : Text → Text → Type 0
IsNoGreater name other = name_cmp name other ≢ Greater

itself : (name : Text) → IsNoGreater name name
itself name greater =
    let e : name_cmp name name ≡ Equal = tied_itself nat_list_cmp_total name in
    absurd (let no : ⊥ = cc in no)

less_through : (name between other : Text) → name_cmp name between ≡ Less → (o : Ordering)
    → name_cmp between other ≡ o → o ≢ Greater → IsNoGreater name other
less_through name between other less Less e no_greater greater =
    let f : name_cmp name other ≡ Less = nat_list_cmp_total.trans name between other less e in
    absurd (let no : ⊥ = cc in no)
less_through name between other less Equal e no_greater greater =
    let f : name_cmp name other ≡ Less =
    subst (λ t. name_cmp name t ≡ Less) (exact_bytes between other e) less in
    absurd (let no : ⊥ = cc in no)
less_through name between other less Greater e no_greater greater = absurd (no_greater refl)

reversed : (name other : Text) → name_cmp name other ≡ Greater → name_cmp other name ≡ Less
reversed name other e = nat_list_cmp_total.antisymm other name ∙ ap ordering_reverse e

-- the least is one of them, and no greater than any
pub record IsLeast (names : List Text) (name : Text) : Type 0 where
  pub there : Contains names name
  pub low : (other : Text) → Contains names other → IsNoGreater name other

module _ (name : Text) (names : List Text) where
  low_here : (best : Text) → IsNoGreater best name
      → ((other : Text) → Contains names other → IsNoGreater best other)
      → (other : Text) → (name ≡ other) ⊎ Contains names other → IsNoGreater best other
  low_here best own rest other (inl same) = subst (IsNoGreater best) same own
  low_here best own rest other (inr c) = rest other c

  with_one : (best : Text) → IsLeast names best → (o : Ordering) → name_cmp name best ≡ o
      → IsLeast (name ∷ names) (match_ordering o name name best)
  with_one best is Less e = record {
    there = first name names;
    low = λ other c. low_here name (itself name)
        (λ x d. less_through name best x e (name_cmp best x) refl (is.low x d)) other
        (which name other names c);
  }
  with_one best is Equal e =
      let same : name ≡ best = exact_bytes name best e in
      record {
        there = first name names;
        low = λ other c. low_here name (itself name)
            (λ x d. subst (λ t. IsNoGreater t x) (sym same) (is.low x d)) other
            (which name other names c);
      }
  with_one best is Greater e = record {
    there = later name best names is.there;
    low = λ other c. low_here best
        (λ greater. let f = reversed name best e in absurd (let no : ⊥ = cc in no)) is.low other
        (which name other names c);
  }

abbrev IsLeastOf : List Text → Option Text → Type 0
IsLeastOf names None = names ≡ []
IsLeastOf names (Some name) = IsLeast names name

lesser_is : (name : Text) (names : List Text) (best : Option Text) → IsLeastOf names best
    → IsLeast (name ∷ names) (lesser name best)
lesser_is name names None is = subst (λ ns. IsLeast (name ∷ ns) name) (sym is) (record {
  there = first name [];
  low = λ other c. low_here name [] name (itself name) (λ x d. absurd (none x d)) other
      (which name other [] c);
})
lesser_is name names (Some best) is = with_one name names best is (name_cmp name best) refl

least_is : (names : List Text) → IsLeastOf names (least names)
least_is [] = refl
least_is (name ∷ names) = lesser_is name names (least names) (least_is names)

least_same : (xs ys : List Text) → SameMembers xs ys → (x y : Option Text) → IsLeastOf xs x
    → IsLeastOf ys y → x ≡ y
least_same xs ys same None None p q = refl
least_same xs ys same None (Some y) p q =
    absurd (none y (subst (λ l. Contains l y) p ((same y).1 q.there)))
least_same xs ys same (Some x) None p q =
    absurd (none x (subst (λ l. Contains l x) q ((same x).0 p.there)))
least_same xs ys same (Some x) (Some y) p q =
    ap Some (by (name_cmp x y) refl)
  where
    by : (o : Ordering) → name_cmp x y ≡ o → x ≡ y
    by Less e =
        absurd (q.low x ((same x).0 p.there)
        (nat_list_cmp_total.antisymm y x ∙ ap ordering_reverse e))
    by Equal e = exact_bytes x y e
    by Greater e = absurd (p.low y ((same y).1 q.there) e)

module _ (collection : Collection) (id : ℕ) (used other : List (ℕ × Text))
    (same : SameMembers used other) where
  same_least : (ls : List CidrLocation) → least (unplaced id ls used) ≡ least (unplaced id ls other)
  same_least ls =
      least_same (unplaced id ls used) (unplaced id ls other)
      (same_kept (is_unplaced id ls) (λ (named : ℕ × Text). named.1) used other same)
      (least (unplaced id ls used)) (least (unplaced id ls other))
      (least_is (unplaced id ls used)) (least_is (unplaced id ls other))

  same_end : (result : Result Rows CidrFault)
      → finished collection id used result ≡ finished collection id other result
  same_end (Err fault) = refl
  same_end (Ok rows) =
      ap (λ (left : Option Text). unless (first_of (refuse_if (nat_lt 1000 (length rows)) TooManyCidrBlocks
      ∷ option_map CidrLocationInUse left ∷ []))
      (Ok (record collection { locations = locations_of rows }))) (same_least (locations_of rows))

pub only_named : OnlyNamedCount
only_named collection changes id used other same =
    same_end collection id used other same
    (after_changes changes (with_locations collection.locations []))
