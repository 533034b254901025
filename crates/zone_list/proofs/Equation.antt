-- Which sets are there once those of some keys are taken away and others are placed among them.
use Rattle.std.proofs.Common.{◌≡◌, ◌≢◌, List, [], ◌∷◌, ◌++◌, ap, ◌∙◌, sym, refl, Bool, true, false, cond, Option, None, Some, Less, Equal, Greater, subst, arith, inl, inr}
use Rattle.std.specs.Prelude.{◌⊎◌, ℕ}
use Rattle.std.specs.List.{filter}
use Rattle.std.specs.Ordering.{is_gt, is_lt}
use Rattle.std.specs.declared.cmp.Ordering.{Ordering}
use Rattle.std.proofs.lemmas.Cmp.{tied_itself}
use Rattle.zone_changes.specs.RTypeRecord.{RType}
use Rattle.zone_changes.specs.RoutingRecord.TheVariants as routing
use Rattle.zone_changes.specs.BodyRecord.TheVariants as body
use Rattle.zone_changes.specs.RecordSetRecord.{RecordSet}
use Rattle.zone_changes.specs.SetKeyRecord.{SetKey}
use Rattle.zone_changes.specs.Sets.{key_of}
use Rattle.zone_changes.specs.Keys.{key_cmp}
use Rattle.zone_changes.specs.Placing.{comes_before, comes_behind, IsThere, placed, without}
use Rattle.zone_changes.specs.Zones.{IsAmong, IsRising}
use Rattle.zone_changes.proofs.Ordered.{keys_tie, keys_total}
use Rattle.zone_changes.proofs.Staying.{placed_rising, without_rising}
use Rattle.zone_list.specs.Changes.{DifferByKey, IsKeyOf, with_all, without_all}
use Rattle.zone_list.proofs.Coming.{first_there, later_there, none_of, not_first}

-- ---- lists

module _ {X : Type 0} where
  in_front : (xs ys : List X) (x : X) → IsAmong xs x → IsAmong (xs ++ ys) x
  in_front [] ys x there = absurd there
  in_front (y ∷ xs) ys x (inl e) = inl e
  in_front (y ∷ xs) ys x (inr there) = inr (in_front xs ys x there)

  in_back : (xs ys : List X) (x : X) → IsAmong ys x → IsAmong (xs ++ ys) x
  in_back [] ys x there = there
  in_back (y ∷ xs) ys x there = inr (in_back xs ys x there)

  of_both : (xs ys : List X) (x : X) → IsAmong (xs ++ ys) x → IsAmong xs x ⊎ IsAmong ys x
  of_both [] ys x there = inr there
  of_both (y ∷ xs) ys x (inl e) = inl (inl e)
  of_both (y ∷ xs) ys x (inr there) = elim (of_both xs ys x there) [
    | inl front ↦ inl (inr front)
    | inr back ↦ inr back
  ]

  in_filter : (f : X → Bool) (xs : List X) (x : X) → IsAmong xs x → f x ≡ true → IsAmong (filter f xs) x
  in_filter f [] x there passes = there
  in_filter f (y ∷ xs) x (inl e) passes =
      subst (λ b. IsAmong (cond b (y ∷ filter f xs) (filter f xs)) x) (sym (ap f e ∙ passes)) (inl e)
  in_filter f (y ∷ xs) x (inr there) passes = by (f y) (in_filter f xs x there passes)
    where
      by : (b : Bool) → IsAmong (filter f xs) x → IsAmong (cond b (y ∷ filter f xs) (filter f xs)) x
      by true later = inr later
      by false later = later

  of_filter : (f : X → Bool) (xs : List X) (x : X) → IsAmong (filter f xs) x
      → IsAmong xs x × (f x ≡ true)
  of_filter f [] x there = absurd there
  of_filter f (y ∷ xs) x there = by (f y) refl (of_filter f xs x) there
    where
      by : (b : Bool) → f y ≡ b → (IsAmong (filter f xs) x → IsAmong xs x × (f x ≡ true))
          → IsAmong (cond b (y ∷ filter f xs) (filter f xs)) x → IsAmong (y ∷ xs) x × (f x ≡ true)
      by true e rest (inl same) = (inl same, ap f (sym same) ∙ e)
      by true e rest (inr later) = let is = rest later in (inr is.0, is.1)
      by false e rest later = let is = rest later in (inr is.0, is.1)

-- ---- one set

-- a set of another key comes before it or behind it
side : (key : SetKey) (x : RecordSet) → key_of x ≢ key
    → (comes_before key x ≡ true) ⊎ (comes_behind key x ≡ true)
side key x other = by (key_cmp (key_of x) key) refl
  where
    by : (o : Ordering) → key_cmp (key_of x) key ≡ o
        → (comes_before key x ≡ true) ⊎ (comes_behind key x ≡ true)
    by Less e = inl (ap is_lt e)
    by Equal e = absurd (other (keys_tie (key_of x) key e))
    by Greater e = inr (ap is_gt e)

before_other : (key : SetKey) (x : RecordSet) → comes_before key x ≡ true → key_of x ≢ key
before_other key x before e =
    let tie : key_cmp (key_of x) key ≡ Equal =
    subst (λ k. key_cmp (key_of x) k ≡ Equal) e (tied_itself keys_total (key_of x)) in
    let not_less : comes_before key x ≡ false = ap is_lt tie in
    grind (arith, before, not_less)

behind_other : (key : SetKey) (x : RecordSet) → comes_behind key x ≡ true → key_of x ≢ key
behind_other key x behind e =
    let tie : key_cmp (key_of x) key ≡ Equal =
    subst (λ k. key_cmp (key_of x) k ≡ Equal) e (tied_itself keys_total (key_of x)) in
    let not_more : comes_behind key x ≡ false = ap is_gt tie in
    grind (arith, behind, not_more)

module _ (key : SetKey) (sets : List RecordSet) (x : RecordSet) where
  in_without : IsAmong sets x → key_of x ≢ key → IsAmong (without key sets) x
  in_without there other = elim (side key x other) [
    | inl low ↦
        in_front (filter (comes_before key) sets) (filter (comes_behind key) sets) x
        (in_filter (comes_before key) sets x there low)
    | inr high ↦
        in_back (filter (comes_before key) sets) (filter (comes_behind key) sets) x
        (in_filter (comes_behind key) sets x there high)
  ]

  of_without : IsAmong (without key sets) x → IsAmong sets x × (key_of x ≢ key)
  of_without there =
      elim (of_both (filter (comes_before key) sets) (filter (comes_behind key) sets) x there) [
        | inl low ↦
            (let is = of_filter (comes_before key) sets x low in (is.0, before_other key x is.1))
        | inr high ↦
            (let is = of_filter (comes_behind key) sets x high in (is.0, behind_other key x is.1))
      ]

module _ (set : RecordSet) (sets : List RecordSet) where
  in_placed : (x : RecordSet) → IsAmong sets x → key_of x ≢ key_of set → IsAmong (placed set sets) x
  in_placed x there other = elim (side (key_of set) x other) [
    | inl low ↦
        in_front (filter (comes_before (key_of set)) sets)
        (set ∷ filter (comes_behind (key_of set)) sets) x
        (in_filter (comes_before (key_of set)) sets x there low)
    | inr high ↦
        in_back (filter (comes_before (key_of set)) sets)
        (set ∷ filter (comes_behind (key_of set)) sets) x
        (inr (in_filter (comes_behind (key_of set)) sets x there high))
  ]

  itself_placed : IsAmong (placed set sets) set
  itself_placed =
      in_back (filter (comes_before (key_of set)) sets)
      (set ∷ filter (comes_behind (key_of set)) sets) set (inl refl)

  of_placed : (x : RecordSet) → IsAmong (placed set sets) x
      → (set ≡ x) ⊎ (IsAmong sets x × (key_of x ≢ key_of set))
  of_placed x there =
      elim (of_both (filter (comes_before (key_of set)) sets)
      (set ∷ filter (comes_behind (key_of set)) sets) x there) [
        | inl low ↦
            (let is = of_filter (comes_before (key_of set)) sets x low in
            inr (is.0, before_other (key_of set) x is.1))
        | inr rest ↦ elim rest [
          | inl e ↦ inl e
          | inr high ↦
              (let is = of_filter (comes_behind (key_of set)) sets x high in
              inr (is.0, behind_other (key_of set) x is.1))
        ]
      ]

-- some set has the key
set_with : SetKey → RecordSet
set_with key = by key.ident
  where
    by : Option (List ℕ) → RecordSet
    by None = record {
      name = key.name;
      rtype = key.rtype;
      routing = routing.Simple;
      body = body.Alias [] false;
      check = None;
    }
    by (Some ident) = record {
      name = key.name;
      rtype = key.rtype;
      routing = routing.Multivalue ident;
      body = body.Alias [] false;
      check = None;
    }

its_key : (name : List (List ℕ)) (rtype : RType) (ident : Option (List ℕ))
    → key_of (set_with (record { name = name; rtype = rtype; ident = ident }))
    ≡ record { name = name; rtype = rtype; ident = ident }
unfolding set_with
its_key name rtype None = refl
its_key name rtype (Some ident) = refl

without_rises : (key : SetKey) (sets : List RecordSet) → IsRising sets → IsRising (without key sets)
without_rises key sets rising =
    subst (λ k. IsRising (without k sets)) (its_key key.name key.rtype key.ident)
    (without_rising (set_with key) sets rising)

-- ---- all of them

pub without_all_rises : (keys : List SetKey) (sets : List RecordSet) → IsRising sets
    → IsRising (without_all keys sets)
without_all_rises [] sets rising = rising
without_all_rises (key ∷ keys) sets rising =
    without_all_rises keys (without key sets) (without_rises key sets rising)

pub with_all_rises : (add sets : List RecordSet) → IsRising sets → IsRising (with_all add sets)
with_all_rises [] sets rising = rising
with_all_rises (set ∷ add) sets rising =
    with_all_rises add (placed set sets) (placed_rising set sets rising)

pub in_without_all : (keys : List SetKey) (sets : List RecordSet) (x : RecordSet) → IsAmong sets x
    → (IsKeyOf keys (key_of x) → ⊥) → IsAmong (without_all keys sets) x
in_without_all [] sets x there other = there
in_without_all (key ∷ keys) sets x there other =
    in_without_all keys (without key sets) x
    (in_without key sets x there (λ e. other (inl (sym e)))) (λ named. other (inr named))

pub of_without_all : (keys : List SetKey) (sets : List RecordSet) (x : RecordSet)
    → IsAmong (without_all keys sets) x → IsAmong sets x × (IsKeyOf keys (key_of x) → ⊥)
of_without_all [] sets x there = (there, λ named. named)
of_without_all (key ∷ keys) sets x there =
    let rest = of_without_all keys (without key sets) x there in
    let is = of_without key sets x rest.0 in
    (is.0, λ named. elim named [ inl e ↦ is.1 (sym e) | inr others ↦ rest.1 others ])

pub in_with_all : (add sets : List RecordSet) (x : RecordSet) → IsAmong sets x
    → (IsThere add (key_of x) → ⊥) → IsAmong (with_all add sets) x
in_with_all [] sets x there other = there
in_with_all (set ∷ add) sets x there other =
    in_with_all add (placed set sets) x
    (in_placed set sets x there (λ e. other (first_there add set (key_of x) (sym e))))
    (λ later. other (later_there add set (key_of x) later))

pub new_with_all : (add sets : List RecordSet) (x : RecordSet) → DifferByKey add → IsAmong add x
    → IsAmong (with_all add sets) x
new_with_all [] sets x differ there = absurd there
new_with_all (set ∷ add) sets x differ (inl e) =
    subst (λ y. IsAmong (with_all add (placed set sets)) y) e
    (in_with_all add (placed set sets) set (itself_placed set sets) (none_of add (key_of set) differ.0))
new_with_all (set ∷ add) sets x differ (inr there) =
    new_with_all add (placed set sets) x differ.1 there

pub of_with_all : (add sets : List RecordSet) (x : RecordSet) → IsAmong (with_all add sets) x
    → IsAmong add x ⊎ (IsAmong sets x × (IsThere add (key_of x) → ⊥))
of_with_all [] sets x there = inr (there, λ h. h.1.there)
of_with_all (set ∷ add) sets x there = elim (of_with_all add (placed set sets) x there) [
  | inl new ↦ inl (inr new)
  | inr old ↦ elim (of_placed set sets x old.0) [
    | inl e ↦ inl (inl e)
    | inr is ↦ inr (is.0, not_first add set (key_of x) is.1 old.1)
  ]
]
