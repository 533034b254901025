-- Sets among others, and tests of them.
use Rattle.std.proofs.Common.{◌≡◌, zero, suc, Bool, true, false, cond, List, [], ◌∷◌, inl, inr, ap}
use Rattle.std.proofs.Common.{◌∙◌, sym, refl, subst, arith}
use Rattle.std.specs.Prelude.{Contains, ◌||◌}
use Rattle.std.specs.List.{AllByRecursion, filter, list_any}
use Rattle.std.proofs.lemmas.Bool.{false≢true, or_cases}
use Rattle.command_octets.specs.Zones.{IsAmong}

module _ {X : Type 0} where
  pub among_of : (xs : List X) (x : X) → Contains xs x → IsAmong xs x
  among_of [] x (k, lt, is) = absurd (omega (arith, lt))
  among_of (y ∷ ys) x (zero, lt, is) = inl is
  among_of (y ∷ ys) x (suc k, lt, is) = inr (among_of ys x (k, omega (arith, lt), is))

  pub all_at : (P : X → Type 0) (xs : List X) (x : X) → AllByRecursion P xs → IsAmong xs x → P x
  all_at P [] x all there = absurd there
  all_at P (y ∷ ys) x all (inl e) = subst P e all.0
  all_at P (y ∷ ys) x all (inr there) = all_at P ys x all.1 there

  pub all_from : (P : X → Type 0) (xs : List X) → ((x : X) → IsAmong xs x → P x)
      → AllByRecursion P xs
  all_from P [] each = tt
  all_from P (y ∷ ys) each = (each y (inl refl), all_from P ys (λ x there. each x (inr there)))

pub or_true : (b : Bool) → (b || true) ≡ true
or_true true = refl
or_true false = refl

module _ {X : Type 0} (p : X → Bool) where
  pub any_of : (xs : List X) (x : X) → IsAmong xs x → p x ≡ true → list_any p xs ≡ true
  any_of [] x there e = absurd there
  any_of (y ∷ ys) x (inl same) e =
      ap (λ b. b || list_any p ys) (subst (λ z. p z ≡ true) (sym same) e)
  any_of (y ∷ ys) x (inr there) e =
      ap (λ b. p y || b) (any_of ys x there e) ∙ or_true (p y)

  pub any_from : (xs : List X) → list_any p xs ≡ true → (x : X) × IsAmong xs x × (p x ≡ true)
  any_from [] e = absurd (false≢true e)
  any_from (y ∷ ys) e = elim (or_cases (p y) (list_any p ys) e) [
    | inl h ↦ (y, inl refl, h)
    | inr h ↦ (let rest = any_from ys h in (rest.0, inr rest.1, rest.2))
  ]

  -- what a test lets through is among the others
  kept_by : (b : Bool) (y : X) (ys : List X) (x : X) → (IsAmong (filter p ys) x → IsAmong ys x)
      → IsAmong (cond b (y ∷ filter p ys) (filter p ys)) x → IsAmong (y ∷ ys) x
  kept_by true y ys x rest (inl e) = inl e
  kept_by true y ys x rest (inr there) = inr (rest there)
  kept_by false y ys x rest there = inr (rest there)

  pub kept_among : (xs : List X) (x : X) → IsAmong (filter p xs) x → IsAmong xs x
  kept_among [] x there = absurd there
  kept_among (y ∷ ys) x there = kept_by (p y) y ys x (kept_among ys x) there
