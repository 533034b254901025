-- One element of a list replaced, and lists seen through functions.
use Rattle.std.proofs.Common.{◌≡◌, ◌≢◌, ℕ, zero, suc, ◌<◌, List, [], ◌∷◌, ◌++◌, length, set, map, ap, ◌∙◌, refl, arith, Some, inl, inr}
use Rattle.std.specs.Prelude.{◌⊎◌, slice_get}
use Rattle.std.proofs.lemmas.List.{length-set}
use Rattle.std.proofs.lemmas.Option.{slice_get_within}

pub same_or_not : (a b : ℕ) → (a ≡ b) ⊎ (a ≢ b)
same_or_not a b = grind arith

pub get_other : {X : Type 0} (xs : List X) (i j : ℕ) (x : X) → j ≢ i
    → slice_get (set xs i x) j ≡ slice_get xs j
get_other [] zero j x apart = refl
get_other [] (suc i) j x apart = refl
get_other (y ∷ xs) zero zero x apart = absurd (apart refl)
get_other (y ∷ xs) zero (suc j) x apart = refl
get_other (y ∷ xs) (suc i) zero x apart = refl
get_other (y ∷ xs) (suc i) (suc j) x apart = get_other xs i j x (λ e. apart (ap suc e))

pub get_same : {X : Type 0} (xs : List X) (i : ℕ) (x : X) → i < length xs → slice_get (set xs i x) i ≡ Some x
get_same [] i x inside = absurd (omega (arith, inside))
get_same (y ∷ xs) zero x inside = refl
get_same (y ∷ xs) (suc i) x inside = get_same xs i x (omega (arith, inside))

pub get_within : {X : Type 0} (xs others : List X) (i : ℕ) (x : X) → slice_get xs i ≡ Some x
    → slice_get (xs ++ others) i ≡ Some x
get_within [] others i x at = absurd cc
get_within (y ∷ xs) others zero x at = at
get_within (y ∷ xs) others (suc i) x at = get_within xs others i x at

pub get_last : {X : Type 0} (xs : List X) (x : X) → slice_get (xs ++ x ∷ []) (length xs) ≡ Some x
get_last [] x = refl
get_last (y ∷ xs) x = get_last xs x

-- an element of a longer list is one of those before, or the last one
pub before_last : {X : Type 0} (xs : List X) (x : X) (i : ℕ) (y : X) → slice_get (xs ++ x ∷ []) i ≡ Some y
    → (slice_get xs i ≡ Some y) ⊎ ((i ≡ length xs) × (x ≡ y))
before_last [] x zero y at = inr (refl, (let e : x ≡ y = cc in e))
before_last [] x (suc i) y at = absurd cc
before_last (z ∷ xs) x zero y at = inl at
before_last (z ∷ xs) x (suc i) y at = elim (before_last xs x i y at) [
  | inl e ↦ inl e
  | inr e ↦ inr
      (ap suc e.0, e.1)
]

module _ {X Y : Type 0} (f g : X → Y) where
  map_agree : (xs : List X) → ((j : ℕ) (x : X) → slice_get xs j ≡ Some x → f x ≡ g x) → map f xs ≡ map g xs
  map_agree [] same = refl
  map_agree (x ∷ xs) same =
      ap (λ y. y ∷ map f xs) (same zero x refl) ∙ ap (λ ys. g x ∷ ys) (map_agree xs (λ j y at. same
      (suc j) y at))

  -- two functions that agree on all elements but the one that is replaced
  pub set_agree : (xs : List X) (i : ℕ) (v : Y)
      → ((j : ℕ) (x : X) → j ≢ i → slice_get xs j ≡ Some x → f x ≡ g x)
      → set (map f xs) i v ≡ set (map g xs) i v
  set_agree [] i v same = refl
  set_agree (x ∷ xs) zero v same =
      ap (λ ys. v ∷ ys) (map_agree xs (λ j y at. same (suc j) y (λ e. absurd (omega (arith, e))) at))
  set_agree (x ∷ xs) (suc i) v same =
      ap (λ y. y ∷ set (map f xs) i v) (same zero x (λ e. absurd (omega (arith, e))) refl)
      ∙ ap (λ ys. g x ∷ ys)
      (set_agree xs i v (λ j y apart at. same (suc j) y (λ e. apart (let k : j ≡ i = omega
      (arith, e) in k)) at))

-- an element that was there was replaced
pub here : {X : Type 0} (xs now : List X) (i : ℕ) (was x : X) → slice_get xs i ≡ Some was → now ≡ set xs i x
    → slice_get now i ≡ Some x
here xs now i was x at is = ap (λ ys. slice_get ys i) is ∙ get_same xs i x (slice_get_within xs i was at)

pub elsewhere : {X : Type 0} (xs now : List X) (i : ℕ) (x : X) → now ≡ set xs i x → (j : ℕ) → j ≢ i
    → slice_get now j ≡ slice_get xs j
elsewhere xs now i x is j apart = ap (λ ys. slice_get ys j) is ∙ get_other xs i j x apart

-- a list of which one element was replaced is as long
pub as_many : {X : Type 0} (xs now : List X) (i : ℕ) (x : X) → now ≡ set xs i x → length now ≡ length xs
as_many xs now i x is = ap length is ∙ length-set xs i x
