-- Walks of checks by steps, and as lists.
use Rattle.std.proofs.Common.{◌≡◌, ◌≢◌, ℕ, zero, suc, Bool, true, false, cond, IsTrue, List, [], ◌∷◌, length, Option, None, Some, ap, ◌∙◌, sym, refl, subst, arith, inl, inr}
use Rattle.std.specs.Prelude.{Contains, nat_eq}
use Rattle.std.proofs.lemmas.Bool.{eqb-true, false≢true, cases_Bool}
use Rattle.check_model.specs.declared.checks.Check.{Check}
use Rattle.check_model.specs.declared.checks.Check.TheVariants.{Endpoint, Calculated}
use Rattle.check_model.specs.Checks.{IsCalculated, IsCalculatedAt, IsWalk, check_with, children_of}
use Rattle.check_model.specs.Commands.{children_there, has_walk, is_calculated, is_calculated_there, is_too_deep, starts_walk}
use Rattle.check_model.specs.Told.{HasWalk, HasWalkFrom, WalksAreTold}
use Rattle.check_model.proofs.Members.{any_from, any_of, further}

abbrev pub Held : Type 0
Held = ℕ × Check

-- the check of a number stands in the list
there_by : (b : Bool) (id : ℕ) (held : Held) (list : List Held) (check : Check)
    → nat_eq id held.0 ≡ b → cond b (Some held.1) (check_with list id) ≡ Some check
    → (check_with list id ≡ Some check → Contains list (id, check))
    → Contains (held ∷ list) (id, check)
there_by true id held list check e is rest =
    let same : id ≡ held.0 = eqb-true id held.0 e in
    let one : held.1 ≡ check = cc in
    (zero, omega arith, ap (λ (n : ℕ). (n, held.1)) (sym same) ∙ ap (λ (c : Check). (id, c)) one)
there_by false id held list check e is rest = further held list (id, check) (rest is)

pub stands_there : (list : List Held) (id : ℕ) (check : Check) → check_with list id ≡ Some check
    → Contains list (id, check)
stands_there [] id check is = absurd (let no : ⊥ = cc in no)
stands_there (held ∷ list) id check is =
    there_by (nat_eq id held.0) id held list check refl is (stands_there list id check)

calculated_told : (check : Check) → is_calculated check ≡ true → IsCalculated check
calculated_told (Endpoint threshold inverted disabled) e = absurd (false≢true e)
calculated_told (Calculated threshold inverted disabled children) e = tt

told_calculated : (check : Check) → IsCalculated check → is_calculated check ≡ true
told_calculated (Endpoint threshold inverted disabled) is = absurd is
told_calculated (Calculated threshold inverted disabled children) is = refl

has_children : (check : Check) (child : ℕ) → Contains (children_of check) child
    → IsCalculated check
has_children (Endpoint threshold inverted disabled) child m =
    let lt = m.1 in absurd (omega (arith, lt))
has_children (Calculated threshold inverted disabled children) child m = tt

module _ (list : List Held) where
  alone : (found : Option Check) (id : ℕ) → check_with list id ≡ found
      → is_calculated_there found ≡ true → HasWalkFrom zero list id
  alone None id at e = absurd (false≢true e)
  alone (Some check) id at e = ([], (check, at, calculated_told check e), refl)

  alone_back : (id : ℕ) → HasWalkFrom zero list id
      → is_calculated_there (check_with list id) ≡ true
  alone_back id ([], (check, at, is), length) =
      ap is_calculated_there at ∙ told_calculated check is
  alone_back id (next ∷ walk, is, length) = let no : ⊥ = omega (arith, length) in absurd no

  longer : (found : Option Check) (id steps : ℕ) → check_with list id ≡ found
      → (child : ℕ) → Contains (children_there found) child → HasWalkFrom steps list child
      → HasWalkFrom (suc steps) list id
  longer None id steps at child m rest = let lt = m.1 in absurd (omega (arith, lt))
  longer (Some check) id steps at child m (walk, is, length) = (
    child ∷ walk,
    ((check, at, has_children check child m), (check, at, m), is),
    ap suc length,
  )

  starts_from : (steps id : ℕ) → starts_walk steps list id ≡ true → HasWalkFrom steps list id
  starts_from zero id e = alone (check_with list id) id refl e
  starts_from (suc steps) id e =
      let m = any_from (starts_walk steps list) (children_there (check_with list id)) e in
      longer (check_with list id) id steps refl m.0 m.1 (starts_from steps m.0 m.2)

  starts_of : (steps id : ℕ) → HasWalkFrom steps list id → starts_walk steps list id ≡ true
  starts_of zero id from = alone_back id from
  starts_of (suc steps) id ([], is, length) =
      let no : ⊥ = omega (arith, length) in absurd no
  starts_of (suc steps) id (next ∷ walk, (calculated, (check, at, m), is), length) =
      any_of (starts_walk steps list) (children_there (check_with list id)) next
      (subst (λ found. Contains (children_there found) next) (sym at) m)
      (starts_of steps next (walk, is, (omega (arith, length))))

  begins_there : (id : ℕ) (walk : List ℕ) → IsWalk list (id ∷ walk) → IsCalculatedAt list id
  begins_there id [] is = is
  begins_there id (next ∷ walk) is = is.0

  stands_from : (steps : ℕ) → has_walk steps list ≡ true → HasWalk list (suc steps)
  stands_from steps e =
      let m = any_from (λ (held : Held). starts_walk steps list held.0) list e in
      let from = starts_from steps m.0.0 m.2 in
      (m.0.0 ∷ from.0, from.1, ap suc from.2)

  stands_of : (steps : ℕ) → HasWalk list (suc steps) → has_walk steps list ≡ true
  stands_of steps ([], is, length) = let no : ⊥ = omega (arith, length) in absurd no
  stands_of steps (id ∷ walk, is, length) =
      let first = begins_there id walk is in
      any_of (λ (held : Held). starts_walk steps list held.0) list (id, first.0)
      (stands_there list id first.0 first.1)
      (starts_of steps id (walk, is, (omega (arith, length))))

pub deep_from : (list : List Held) → IsTrue (is_too_deep list) → HasWalk list 5
unfolding is_too_deep
deep_from list e = stands_from list 4 e

pub deep_of : (list : List Held) → HasWalk list 5 → IsTrue (is_too_deep list)
unfolding is_too_deep
deep_of list has = stands_of list 4 has

pub walks_told : WalksAreTold
walks_told = record {
  starts = λ steps list id. (starts_from list steps id, starts_of list steps id);
  stand = λ steps list. (stands_from list steps, stands_of list steps);
  deep = λ list. (deep_from list, deep_of list);
}

-- no walk of five checks
pub shallow_of : (list : List Held) → is_too_deep list ≡ false
    → (walk : List ℕ) → IsWalk list walk → length walk ≢ 5
shallow_of list e walk is five = false≢true (sym e ∙ deep_of list (walk, is, five))

pub not_deep : (list : List Held) → ((walk : List ℕ) → IsWalk list walk → length walk ≢ 5)
    → is_too_deep list ≡ false
not_deep list shallow = elim (cases_Bool (is_too_deep list)) [
  | inl e ↦ (let has = deep_from list e in absurd (shallow has.0 has.1 has.2))
  | inr e ↦ e
]
