-- Checks of which each child is a check of an endpoint: they have no walk of five, and stay so by the
-- rules of the first version.
use Rattle.std.proofs.Common.{◌≡◌, ◌≢◌, ℕ, Bool, true, false, cond, List, [], ◌∷◌, ◌++◌, length, map, Option, None, Some, ap, ◌∙◌, sym, refl, subst, arith}
use Rattle.std.specs.Prelude.{Contains, nat_eq, option_map, unwrap_or}
use Rattle.std.proofs.lemmas.Bool.{ne_eqb, false≢true}
use Rattle.check_model.proofs.Found.{alone, at_more, at_updated, at_without, or_else}
use Rattle.check_model.proofs.Told.{named_of}
use Rattle.check_model.proofs.Walks.{Held}
use Rattle.check_model.specs.Checks.{IsCalculated, IsCalculatedAt, IsWalk, check_with}
use Rattle.check_model.specs.Checks.{children_of}
use Rattle.check_model.specs.Commands.{Given, is_named, is_too_deep, updated_at, updated_check, without}
use Rattle.check_model.specs.Told.{WalksAreTold}
use Rattle.check_model.specs.declared.checks.Check.{Check}
use Rattle.check_model.specs.declared.checks.Check.TheVariants.{Endpoint, Calculated}
use Rattle.first_version.specs.Rules.{IsEndpointAt, IsFlat, NoneIsDisabled, is_disabled}

-- ---- walks

one_check : (found : Option Check) (a b : Check) → found ≡ Some a → found ≡ Some b → a ≡ b
one_check found a b e f = let both : Some a ≡ Some b = sym e ∙ f in grind (arith, both)

not_both : (list : List Held) (id : ℕ) → IsCalculatedAt list id → IsEndpointAt list id → ⊥
not_both list id (check, at, is) (other, also, never) =
    never (subst IsCalculated (one_check (check_with list id) check other at also) is)

no_walk : (list : List Held) → IsFlat list → (walk : List ℕ) → IsWalk list walk
    → length walk ≢ 5
no_walk list flat [] is e = absurd (omega (arith, e))
no_walk list flat (id ∷ []) is e = absurd (omega (arith, e))
no_walk list flat (id ∷ next ∷ []) is e = absurd (omega (arith, e))
no_walk list flat (id ∷ next ∷ more ∷ walk) is e =
    not_both list next is.2.0 (flat id next is.1)

false_by : (b : Bool) → (b ≡ true → ⊥) → b ≡ false
false_by true never = absurd (never refl)
false_by false never = refl

pub not_deep : WalksAreTold → (list : List Held) → IsFlat list → is_too_deep list ≡ false
not_deep told list flat =
    false_by (is_too_deep list) (λ deep. (let walk = (told.deep list).0 deep in
    no_walk list flat walk.0 walk.1 walk.2))

-- ---- one more

module _ (new : Held) (list : List Held) where
  endpoint_more : (id : ℕ) → IsEndpointAt list id → IsEndpointAt (list ++ new ∷ []) id
  endpoint_more id (check, at, never) = (
    check,
    at_more new list id ∙ ap (λ (o : Option Check). or_else o (alone new id)) at,
    never,
  )

  of_alone : (b : Bool) (check : Check) → cond b (Some new.1) None ≡ Some check → new.1 ≡ check
  of_alone true check e = grind (arith, e)
  of_alone false check e = absurd (grind (arith, e))

  -- a check of the list, or the new one
  either_more : (Q : Check → Type 0) (id : ℕ) (found : Option Check) (check : Check)
      → check_with list id ≡ found → or_else found (alone new id) ≡ Some check
      → (check_with list id ≡ Some check → Q check) → Q new.1 → Q check
  either_more Q id (Some other) check e at old its =
      let same : other ≡ check = grind (arith, at) in old (e ∙ ap Some same)
  either_more Q id None check e at old its =
      subst Q (of_alone (nat_eq id new.0) check at) its

  more : (Q : Check → Type 0) (id : ℕ) (check : Check)
      → check_with (list ++ new ∷ []) id ≡ Some check
      → (check_with list id ≡ Some check → Q check) → Q new.1 → Q check
  more Q id check at old its =
      either_more Q id (check_with list id) check refl (sym (at_more new list id) ∙ at) old its

  pub flat_more : IsFlat list
      → ((child : ℕ) → Contains (children_of new.1) child → IsEndpointAt list child)
      → IsFlat (list ++ new ∷ [])
  flat_more flat its id child (check, at, m) =
      endpoint_more child (more
      (λ (c : Check). Contains (children_of c) child → IsEndpointAt list child) id check at
      (λ found n. flat id child (check, found, n)) (its child) m)

  pub none_more : NoneIsDisabled list → is_disabled new.1 ≡ false
      → NoneIsDisabled (list ++ new ∷ [])
  none_more none its id check at =
      more (λ (c : Check). is_disabled c ≡ false) id check at (none id check) its

-- ---- one changed

module _ (id : ℕ) (given : Given) (list : List Held) where
  abbrev update : Check → Check
  update check = updated_check given check

  was_calculated : (check : Check) → IsCalculated (update check) → IsCalculated check
  was_calculated (Endpoint threshold inverted disabled) is = is
  was_calculated (Calculated threshold inverted disabled children) is = tt

  endpoint_by : (b : Bool) (check : Check) → (IsCalculated check → ⊥)
      → (other : Check)
      × (cond b (option_map update (Some check)) (Some check) ≡ Some other)
      × (IsCalculated other → ⊥)
  endpoint_by true check never = (update check, refl, λ is. never (was_calculated check is))
  endpoint_by false check never = (check, refl, never)

  endpoint_updated : (k : ℕ) → IsEndpointAt list k
      → IsEndpointAt (map (updated_at id given) list) k
  endpoint_updated k (check, at, never) =
      let other = endpoint_by (nat_eq k id) check never in (
        other.0,
        at_updated id given list k
            ∙ ap (λ (o : Option Check). cond (nat_eq k id) (option_map update o) o) at ∙ other.1,
        other.2,
      )

  -- a check as it was, or one that was changed
  either_updated : (Q : Check → Type 0) (b : Bool) (found : Option Check) (check : Check)
      → cond b (option_map update found) found ≡ Some check
      → ((before : Check) → found ≡ Some before → Q before)
      → ((before : Check) → found ≡ Some before → Q (update before)) → Q check
  either_updated Q true None check at old its = absurd (grind (arith, at))
  either_updated Q false None check at old its = absurd (grind (arith, at))
  either_updated Q true (Some before) check at old its =
      let same : update before ≡ check = grind (arith, at) in subst Q same (its before refl)
  either_updated Q false (Some before) check at old its =
      let same : before ≡ check = grind (arith, at) in subst Q same (old before refl)

  changed : (Q : Check → Type 0) (k : ℕ) (check : Check)
      → check_with (map (updated_at id given) list) k ≡ Some check
      → ((before : Check) → check_with list k ≡ Some before → Q before)
      → ((before : Check) → check_with list k ≡ Some before → Q (update before)) → Q check
  changed Q k check at old its =
      either_updated Q (nat_eq k id) (check_with list k) check
      (sym (at_updated id given list k) ∙ at) old its

  abbrev AreGiven : Type 0
  AreGiven = (children : List ℕ) → given.children ≡ Some children
      → (child : ℕ) → Contains children child → IsEndpointAt list child

  no_child : (child : ℕ) → Contains [] child → ⊥
  no_child child (k, lt, is) = omega (arith, lt)

  child_by : (all : Option (List ℕ)) (before : List ℕ) (child : ℕ) → given.children ≡ all
      → AreGiven → (Contains before child → IsEndpointAt list child)
      → Contains (unwrap_or all before) child → IsEndpointAt list child
  child_by None before child e its old m = old m
  child_by (Some children) before child e its old m = its children e child m

  child_of : IsFlat list → AreGiven → (k child : ℕ) (before : Check)
      → check_with list k ≡ Some before → Contains (children_of (update before)) child
      → IsEndpointAt list child
  child_of flat its k child (Endpoint threshold inverted disabled) at m =
      absurd (no_child child m)
  child_of flat its k child (Calculated threshold inverted disabled children) at m =
      child_by given.children children child refl its
      (λ n. flat k child (Calculated threshold inverted disabled children, at, n)) m

  pub flat_updated : IsFlat list → AreGiven → IsFlat (map (updated_at id given) list)
  flat_updated flat its k child (check, at, m) =
      endpoint_updated child (changed
      (λ (c : Check). Contains (children_of c) child → IsEndpointAt list child) k check at
      (λ before found n. flat k child (before, found, n)) (child_of flat its k child) m)

  as_disabled : given.disabled ≡ None → (check : Check)
      → is_disabled (update check) ≡ is_disabled check
  as_disabled none (Endpoint threshold inverted disabled) =
      ap (λ (o : Option Bool). unwrap_or o disabled) none
  as_disabled none (Calculated threshold inverted disabled children) =
      ap (λ (o : Option Bool). unwrap_or o disabled) none

  pub none_updated : NoneIsDisabled list → given.disabled ≡ None
      → NoneIsDisabled (map (updated_at id given) list)
  none_updated none unsaid k check at =
      changed (λ (c : Check). is_disabled c ≡ false) k check at (none k)
      (λ before found. as_disabled unsaid before ∙ none k before found)

-- ---- one fewer

module _ (id : ℕ) (list : List Held) where
  stays_by : (b : Bool) (found : Option Check) (check : Check) → cond b None found ≡ Some check
      → found ≡ Some check
  stays_by true found check e = absurd (grind (arith, e))
  stays_by false found check e = e

  stays : (k : ℕ) (check : Check) → check_with (without id list) k ≡ Some check
      → check_with list k ≡ Some check
  stays k check at =
      stays_by (nat_eq k id) (check_with list k) check (sym (at_without id list k) ∙ at)

  pub flat_without : IsFlat list → is_named id list ≡ false → IsFlat (without id list)
  flat_without flat unnamed k child (check, at, m) =
      let was = stays k check at in
      let is = flat k child (check, was, m) in
      let other : child ≢ id = λ same. false≢true (sym unnamed
      ∙ named_of list id (k, (check, was, subst (Contains (children_of check)) same m))) in (
        is.0,
        at_without id list child
            ∙ ap (λ (b : Bool). cond b None (check_with list child)) (ne_eqb child id other) ∙ is.1,
        is.2,
      )

  pub none_without : NoneIsDisabled list → NoneIsDisabled (without id list)
  none_without none k check at = none k check (stays k check at)
