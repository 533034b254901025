-- Elements of lists by their places.
use Rattle.std.proofs.Common.{◌≡◌, ℕ, zero, suc, ◌+◌, ◌<◌, ◌≤◌, List, [], ◌∷◌, ◌++◌, length, take}
use Rattle.std.proofs.Common.{drop, ap, refl, Some, arith, inl, inr}
use Rattle.std.specs.Prelude.{◌⊎◌, slice_get}
use Rattle.set_search.specs.Zones.{IsAmong}

module _ {X : Type 0} where
  pub filled : (xs : List X) (i : ℕ) → i < length xs → (x : X) × (slice_get xs i ≡ Some x)
  filled [] i lt = absurd (omega (arith, lt))
  filled (x ∷ xs) zero lt = (x, refl)
  filled (x ∷ xs) (suc i) lt = filled xs i (omega (arith, lt))

  pub among_at : (xs : List X) (i : ℕ) (x : X) → slice_get xs i ≡ Some x → IsAmong xs x
  among_at [] i x at = absurd (grind (arith, at))
  among_at (first ∷ xs) zero x at = inl (grind (arith, at))
  among_at (first ∷ xs) (suc i) x at = inr (among_at xs i x at)

  -- a place of a list with one element more is one of the list, or the last
  pub at_end : (xs : List X) (x : X) (i : ℕ) (y : X) → slice_get (xs ++ x ∷ []) i ≡ Some y
      → (slice_get xs i ≡ Some y) ⊎ ((i ≡ length xs) × (x ≡ y))
  at_end [] x zero y at = inr (refl, grind (arith, at))
  at_end [] x (suc i) y at = absurd (grind (arith, at))
  at_end (first ∷ xs) x zero y at = inl at
  at_end (first ∷ xs) x (suc i) y at = elim (at_end xs x i y at) [
    | inl there ↦ inl there
    | inr last ↦ inr (ap suc last.0, last.1)
  ]

  -- what stands at one of the places is among those that stand there
  pub among_these : (xs : List X) (start n i : ℕ) (x : X) → start ≤ i → i < start + n
      → slice_get xs i ≡ Some x → IsAmong (take n (drop start xs)) x
  among_these xs zero zero i x from to at = absurd (omega (arith, to))
  among_these [] zero (suc n) i x from to at = absurd (grind (arith, at))
  among_these (y ∷ xs) zero (suc n) zero x from to at = inl (grind (arith, at))
  among_these (y ∷ xs) zero (suc n) (suc i) x from to at =
      inr (among_these xs zero n i x (omega arith) (omega (arith, to)) at)
  among_these [] (suc start) n i x from to at = absurd (grind (arith, at))
  among_these (y ∷ xs) (suc start) n zero x from to at = absurd (omega (arith, from))
  among_these (y ∷ xs) (suc start) n (suc i) x from to at =
      among_these xs start n i x (omega (arith, from)) (omega (arith, to)) at

  -- what is among them stands at one of the places
  pub place_of_these : (xs : List X) (start n : ℕ) (x : X) → IsAmong (take n (drop start xs)) x
      → (i : ℕ) × (start ≤ i) × (i < start + n) × (slice_get xs i ≡ Some x)
  place_of_these xs zero zero x there = absurd there
  place_of_these [] zero (suc n) x there = absurd there
  place_of_these (y ∷ xs) zero (suc n) x (inl e) = (0, omega arith, omega arith, ap Some e)
  place_of_these (y ∷ xs) zero (suc n) x (inr there) =
      let rest = place_of_these xs zero n x there in
      (suc rest.0, omega arith, let to = rest.2 in omega (arith, to), rest.3)
  place_of_these [] (suc start) zero x there = absurd there
  place_of_these [] (suc start) (suc n) x there = absurd there
  place_of_these (y ∷ xs) (suc start) n x there =
      let rest = place_of_these xs start n x there in
      (suc rest.0, let from = rest.1 in omega (arith, from), let to = rest.2 in omega (arith, to), rest.3)
