-- Filters of lists that are in order.
use Rattle.std.proofs.Common.{◌≡◌, ℕ, zero, suc, ◌<◌, ◌≤◌, List, [], ◌∷◌, take, drop, ap, sym, refl, Bool, true, false, Some, subst, arith, cond}
use Rattle.std.specs.Prelude.{slice_get}
use Rattle.std.specs.List.{filter}

module _ {X : Type 0} (p : X → Bool) where
  none_pass : (xs : List X) → ((k : ℕ) (x : X) → slice_get xs k ≡ Some x → p x ≡ false)
      → filter p xs ≡ []
  none_pass [] h = refl
  none_pass (x ∷ xs) h =
      let rest = none_pass xs (λ k y at. h (suc k) y at) in
      subst (λ b. cond b (x ∷ filter p xs) (filter p xs) ≡ []) (sym (h 0 x refl)) rest

  all_kept : (xs : List X) → ((k : ℕ) (x : X) → slice_get xs k ≡ Some x → p x ≡ true)
      → filter p xs ≡ xs
  all_kept [] h = refl
  all_kept (x ∷ xs) h =
      let rest = all_kept xs (λ k y at. h (suc k) y at) in
      subst (λ b. cond b (x ∷ filter p xs) (filter p xs)
      ≡ x ∷ xs) (sym (h 0 x refl)) (ap (λ ys. x ∷ ys) rest)

  -- the test holds of the first n
  pub filter_front : (xs : List X) (n : ℕ)
      → ((k : ℕ) (x : X) → k < n → slice_get xs k ≡ Some x → p x ≡ true)
      → ((k : ℕ) (x : X) → n ≤ k → slice_get xs k ≡ Some x → p x ≡ false) → filter p xs ≡ take n xs
  filter_front [] zero passes fails = refl
  filter_front [] (suc n) passes fails = refl
  filter_front (x ∷ xs) zero passes fails =
      none_pass (x ∷ xs) (λ k y at. fails k y (omega arith) at)
  filter_front (x ∷ xs) (suc n) passes fails =
      let rest =
      filter_front xs n (λ k y lt at. passes (suc k) y (omega (arith, lt)) at)
      (λ k y le at. fails (suc k) y (omega (arith, le)) at) in
      subst (λ b. cond b (x ∷ filter p xs) (filter p xs)
      ≡ x ∷ take n xs) (sym (passes 0 x (omega arith) refl)) (ap (λ ys. x ∷ ys) rest)

  -- the test holds of all behind the first n
  pub filter_back : (xs : List X) (n : ℕ)
      → ((k : ℕ) (x : X) → k < n → slice_get xs k ≡ Some x → p x ≡ false)
      → ((k : ℕ) (x : X) → n ≤ k → slice_get xs k ≡ Some x → p x ≡ true) → filter p xs ≡ drop n xs
  filter_back [] zero before behind = refl
  filter_back [] (suc n) before behind = refl
  filter_back (x ∷ xs) zero before behind =
      all_kept (x ∷ xs) (λ k y at. behind k y (omega arith) at)
  filter_back (x ∷ xs) (suc n) before behind =
      let rest =
      filter_back xs n (λ k y lt at. before (suc k) y (omega (arith, lt)) at)
      (λ k y le at. behind (suc k) y (omega (arith, le)) at) in
      subst (λ b. cond b (x ∷ filter p xs) (filter p xs)
      ≡ drop n xs) (sym (before 0 x (omega arith) refl)) rest
