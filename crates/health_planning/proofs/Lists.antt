-- Lists with one more element.
use Rattle.std.proofs.Common.{◌≡◌, ◌++◌, ◌∷◌, [], ℕ, zero, suc, List, length, ap, refl, ◌⊎◌, inl, inr, Some}
use Rattle.std.specs.Prelude.{slice_get}

-- an element of a list with one more
pub in_more : {X : Type 0} (xs : List X) (x found : X) (n : ℕ)
    → slice_get (xs ++ x ∷ []) n ≡ Some found
    → (slice_get xs n ≡ Some found) ⊎ ((n ≡ length xs) × (found ≡ x))
in_more [] x found zero e = inr (refl, cc)
in_more [] x found (suc n) e = let no : ⊥ = cc in absurd no
in_more (y ∷ ys) x found zero e = inl e
in_more (y ∷ ys) x found (suc n) e = elim (in_more ys x found n e) [
  | inl within ↦ inl within
  | inr last ↦ inr (ap suc last.0, last.1)
]
