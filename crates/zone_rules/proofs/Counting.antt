-- How many of a list pass a test.
use Rattle.std.proofs.Common.{◌≡◌, ℕ, zero, suc, ◌+◌, ◌<◌, ◌≤◌, List, [], ◌∷◌, length, ap, ◌∙◌, sym, refl, Bool, true, false, Some, subst, arith, cond}
use Rattle.std.specs.Prelude.{slice_get}
use Rattle.std.specs.List.{filter}

module _ {X : Type 0} (p : X → Bool) where
  -- what passes at places s to s + n is at least n
  pub at_least : (xs : List X) (s n : ℕ)
      → ((k : ℕ) → s ≤ k → k < s + n → (x : X) × (slice_get xs k ≡ Some x) × (p x ≡ true))
      → n ≤ length (filter p xs)
  at_least xs s zero h = omega arith
  at_least [] s (suc n) h = let r = h s (omega arith) (omega arith) in
      absurd (let e = r.1 in grind (arith, e))
  at_least (x ∷ xs) (suc s) (suc n) h =
      let rest =
      at_least xs s (suc n) (λ k le lt. h (suc k) (omega (arith, le)) (omega (arith, lt))) in
      more (p x) rest
    where
      more : (b : Bool) → suc n ≤ length (filter p xs)
          → suc n ≤ length (cond b (x ∷ filter p xs) (filter p xs))
      more true le = omega (arith, le)
      more false le = le
  at_least (x ∷ xs) zero (suc n) h =
      let r = h 0 (omega arith) (omega arith) in
      let same : x ≡ r.0 = (let e = r.1 in grind (arith, e)) in
      let passes : p x ≡ true = ap p same ∙ r.2 in
      let rest = at_least xs zero n (λ k le lt. h (suc k) (omega arith) (omega (arith, lt))) in
      subst (λ b. suc n ≤ length (cond b (x ∷ filter p xs) (filter p xs))) (sym passes)
      (omega (arith, rest))

  -- what passes within n places is at most n
  pub at_most : (xs : List X) (s n : ℕ)
      → ((k : ℕ) (x : X) → slice_get xs k ≡ Some x → p x ≡ true → (s ≤ k) × (k < s + n))
      → length (filter p xs) ≤ n
  at_most [] s n h = omega arith
  at_most (x ∷ xs) (suc s) n h =
      by (at_most xs s n (λ k y at passes. let r = h (suc k) y at passes in
      (omega (arith, r.0), omega (arith, r.1)))) (p x) refl
    where
      by : length (filter p xs) ≤ n → (b : Bool) → p x ≡ b
          → length (cond b (x ∷ filter p xs) (filter p xs)) ≤ n
      by rest true e = let r = h 0 x refl e in absurd (omega (arith, r.0))
      by rest false e = rest
  at_most (x ∷ xs) zero zero h =
      by (at_most xs zero zero (λ k y at passes. let r = h (suc k) y at passes in
      absurd (omega (arith, r.1)))) (p x) refl
    where
      by : length (filter p xs) ≤ 0 → (b : Bool) → p x ≡ b
          → length (cond b (x ∷ filter p xs) (filter p xs)) ≤ 0
      by rest true e = let r = h 0 x refl e in absurd (omega (arith, r.1))
      by rest false e = rest
  at_most (x ∷ xs) zero (suc n) h =
      by (at_most xs zero n (λ k y at passes. let r = h (suc k) y at passes in
      (omega arith, omega (arith, r.1)))) (p x)
    where
      by : length (filter p xs) ≤ n → (b : Bool)
          → length (cond b (x ∷ filter p xs) (filter p xs)) ≤ suc n
      by rest true = omega (arith, rest)
      by rest false = omega (arith, rest)
