-- The rules of commands in words of lists.
use Rattle.std.proofs.Common.{◌≡◌, ℕ, zero, suc, ◌<◌, Bool, true, false, cond, List, [], ◌∷◌, Option, None, Some, ap, ◌∙◌, sym, refl, subst, arith}
use Rattle.std.specs.Prelude.{Contains, nat_eq, is_some}
use Rattle.std.specs.List.{AllByRecursion, list_any}
use Rattle.std.proofs.lemmas.Bool.{eq-eqb, eqb-true, ne_eqb, false≢true}
use Rattle.check_model.specs.declared.checks.Check.{Check}
use Rattle.check_model.specs.Checks.{IdsRise, IsId, check_with, children_of}
use Rattle.check_model.specs.Commands.{first_missing, is_named, is_there}
use Rattle.check_model.specs.Told.{IsFirstMissing, IsReferredTo, RefusalsAreTold}
use Rattle.check_model.proofs.Members.{all_at, any_from, any_of, repeated_told}
use Rattle.check_model.proofs.Walks.{Held, stands_there}

-- whether a check is there
id_by : (found : Option Check) (list : List Held) (id : ℕ) → check_with list id ≡ found
    → is_some found ≡ true → IsId list id
id_by None list id at e = absurd (false≢true e)
id_by (Some check) list id at e = (check, at)

pub id_of : (list : List Held) (id : ℕ) → is_there list id ≡ true → IsId list id
id_of list id e = id_by (check_with list id) list id refl e

pub there_of : (list : List Held) (id : ℕ) → IsId list id → is_there list id ≡ true
there_of list id is = ap is_some is.1

-- the first child that isn't there
module _ (list : List Held) where
  missing_by : (b : Bool) (child : ℕ) (children : List ℕ) → is_there list child ≡ b
      → (found : Option ℕ) → IsFirstMissing list children found
      → IsFirstMissing list (child ∷ children) (cond b found (Some child))
  missing_by true child children e None all = (id_of list child e, all)
  missing_by true child children e (Some other) (before, behind, split, all, not) = (
    child ∷ before,
    behind,
    ap (λ (l : List ℕ). child ∷ l) split,
    (id_of list child e, all),
    not,
  )
  missing_by false child children e found rest =
      ([], children, refl, tt, (λ is. false≢true (sym e ∙ there_of list child is)))

  missing_told : (children : List ℕ) → IsFirstMissing list children (first_missing list children)
  missing_told [] = tt
  missing_told (child ∷ children) =
      missing_by (is_there list child) child children refl (first_missing list children)
      (missing_told children)

  all_by : (found : Option ℕ) (children : List ℕ) → IsFirstMissing list children found
      → found ≡ None → AllByRecursion (IsId list) children
  all_by None children all e = all
  all_by (Some child) children first e = let no : ⊥ = cc in absurd no

  pub all_there : (children : List ℕ) → first_missing list children ≡ None
      → AllByRecursion (IsId list) children
  all_there children e = all_by (first_missing list children) children (missing_told children) e

-- where numbers rise, each is that of one check
above_not : (held : Held) (list : List Held) (other : Held)
    → AllByRecursion (λ (other : Held). held.0 < other.0) list → Contains list other
    → nat_eq other.0 held.0 ≡ false
above_not held list other above m =
    let low = all_at (λ (other : Held). held.0 < other.0) list other above m in
    ne_eqb other.0 held.0 (λ e. omega (arith, low, e))

pub one_of_id : (list : List Held) (held : Held) → IdsRise list → Contains list held
    → check_with list held.0 ≡ Some held.1
one_of_id [] held rise (k, lt, is) = absurd (omega (arith, lt))
one_of_id (first ∷ list) held rise (zero, lt, is) =
    subst (λ (h : Held). check_with (first ∷ list) h.0 ≡ Some h.1) is
    (rw (eq-eqb first.0 first.0 refl) refl)
one_of_id (first ∷ list) held rise (suc k, lt, is) =
    let m : Contains list held = (k, omega (arith, lt), is) in
    rw (above_not first list held rise.0 m) (one_of_id list held rise.1 m)

names : (id : ℕ) → Held → Bool
names id held = list_any (nat_eq id) (children_of held.1)

named_from : (list : List Held) (id : ℕ) → IdsRise list → is_named id list ≡ true
    → IsReferredTo list id
named_from list id rise e =
    let m = any_from (λ (held : Held). list_any (nat_eq id) (children_of held.1)) list e in
    let child = any_from (nat_eq id) (children_of m.0.1) m.2 in (
      m.0.0,
      (
        m.0.1,
        one_of_id list m.0 rise m.1,
        subst (Contains (children_of m.0.1)) (sym (eqb-true id child.0 child.2)) child.1,
      ),
    )

pub named_of : (list : List Held) (id : ℕ) → IsReferredTo list id → is_named id list ≡ true
named_of list id (parent, (check, at, m)) =
    any_of (λ (held : Held). list_any (nat_eq id) (children_of held.1)) list (parent, check)
    (stands_there list parent check at)
    (any_of (nat_eq id) (children_of check) id m (eq-eqb id id refl))

pub refusals_told : RefusalsAreTold
refusals_told = record {
  repeated = repeated_told;
  missing = missing_told;
  named = λ list id rise. (named_from list id rise, named_of list id);
}
