-- Elements of lists that pass a test, and children that differ.
use Rattle.std.proofs.Common.{◌≡◌, ◌≢◌, ℕ, zero, suc, Bool, true, false, IsTrue, ◌↔◌, List, [], ◌∷◌, inl, inr, ◌∙◌, sym, refl, subst, arith}
use Rattle.std.specs.Prelude.{Contains, nat_eq}
use Rattle.std.specs.List.{AllByRecursion, list_any}
use Rattle.std.proofs.lemmas.Bool.{eq-eqb, eqb-true, false≢true, or_cases, or_parts, cases_Bool}
use Rattle.std.proofs.lemmas.List.Folds.{list_any_at}
use Rattle.check_model.specs.Checks.{AreDistinct}
use Rattle.check_model.specs.Commands.{has_repeated}

module _ {X : Type 0} where
  -- what holds of all holds of a member
  pub all_at : (P : X → Type 0) (xs : List X) (x : X) → AllByRecursion P xs → Contains xs x → P x
  all_at P [] x all (k, lt, is) = absurd (omega (arith, lt))
  all_at P (y ∷ ys) x all (zero, lt, is) = subst P is all.0
  all_at P (y ∷ ys) x all (suc k, lt, is) = all_at P ys x all.1 (k, omega (arith, lt), is)

  pub all_from : (P : X → Type 0) (xs : List X) → ((x : X) → Contains xs x → P x)
      → AllByRecursion P xs
  all_from P [] each = tt
  all_from P (y ∷ ys) each = (
    each y (zero, omega arith, refl),
    all_from P ys (λ x m. each x (suc m.0, (let lt = m.1 in omega (arith, lt)), m.2)),
  )

  pub all_mapped : (P Q : X → Type 0) → ((x : X) → P x → Q x) → (xs : List X)
      → AllByRecursion P xs → AllByRecursion Q xs
  all_mapped P Q f [] all = tt
  all_mapped P Q f (x ∷ xs) all = (f x all.0, all_mapped P Q f xs all.1)

  pub further : (y : X) (ys : List X) (x : X) → Contains ys x → Contains (y ∷ ys) x
  further y ys x m = (suc m.0, (let lt = m.1 in omega (arith, lt)), m.2)

module _ {X : Type 0} (p : X → Bool) where
  pub any_of : (xs : List X) (x : X) → Contains xs x → p x ≡ true → list_any p xs ≡ true
  any_of xs x m e =
      list_any_at p xs m.0 x m.1 (subst (λ y. p y ≡ true) (sym m.2) e)

  pub none_of : (xs : List X) (x : X) → list_any p xs ≡ false → Contains xs x → p x ≡ true → ⊥
  none_of xs x none m e = false≢true (sym none ∙ any_of xs x m e)

  pub any_from : (xs : List X) → list_any p xs ≡ true
      → (x : X) × Contains xs x × (p x ≡ true)
  any_from [] e = absurd (false≢true e)
  any_from (x ∷ xs) e = elim (or_cases (p x) (list_any p xs) e) [
    | inl h ↦ (x, (zero, omega arith, refl), h)
    | inr h ↦ (let m = any_from xs h in (m.0, further x xs m.0 m.1, m.2))
  ]

-- a number that isn't among others
pub others_of : (child : ℕ) (children : List ℕ) → list_any (nat_eq child) children ≡ false
    → AllByRecursion (λ other. child ≢ other) children
others_of child children none =
    all_from (λ other. child ≢ other) children
    (λ other m e. none_of (nat_eq child) children other none m (eq-eqb child other e))

others_not : (child : ℕ) (children : List ℕ) → list_any (nat_eq child) children ≡ true
    → AllByRecursion (λ other. child ≢ other) children → ⊥
others_not child children any all =
    let m = any_from (nat_eq child) children any in
    all_at (λ other. child ≢ other) children m.0 all m.1 (eqb-true child m.0 m.2)

pub distinct_of : (children : List ℕ) → has_repeated children ≡ false → AreDistinct children
distinct_of [] e = tt
distinct_of (child ∷ children) e =
    let both = or_parts (list_any (nat_eq child) children) (has_repeated children) e in
    (others_of child children both.0, distinct_of children both.1)

repeated_not : (children : List ℕ) → has_repeated children ≡ true → AreDistinct children → ⊥
repeated_not [] e distinct = false≢true e
repeated_not (child ∷ children) e distinct =
    elim (or_cases (list_any (nat_eq child) children) (has_repeated children) e) [
      | inl any ↦ others_not child children any distinct.0
      | inr more ↦ repeated_not children more distinct.1
    ]

pub repeated_told : (children : List ℕ)
    → IsTrue (has_repeated children) ↔ (AreDistinct children → ⊥)
repeated_told children = (repeated_not children, back)
  where
    back : (AreDistinct children → ⊥) → IsTrue (has_repeated children)
    back never = elim (cases_Bool (has_repeated children)) [
      | inl e ↦ e
      | inr e ↦ absurd (never (distinct_of children e))
    ]
