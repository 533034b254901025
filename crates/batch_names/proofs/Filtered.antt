-- Lists and those of their elements that pass a test.
use Rattle.std.proofs.Common.{◌≡◌, ℕ, zero, suc, ◌<◌, ◌≤◌, List, [], ◌∷◌, ap, ◌∙◌, sym, refl, subst}
use Rattle.std.proofs.Common.{Bool, true, false, cond, Some, arith, inl, inr}
use Rattle.std.specs.Prelude.{◌⊎◌, slice_get}
use Rattle.std.specs.List.{filter}
use Rattle.zone_table.specs.Sets.{IsAmong}

-- a number is below another, or not
pub below_or_not : (a b : ℕ) → (a < b) ⊎ (b ≤ a)
below_or_not a zero = inr (omega arith)
below_or_not zero (suc b) = inl (omega arith)
below_or_not (suc a) (suc b) =
    elim (below_or_not a b) [ inl lt ↦ inl (omega (arith, lt)) | inr le ↦ inr (omega (arith, le)) ]

module _ {X : Type 0} where
  pub passes : (f : X → Bool) (x : X) (xs : List X) → f x ≡ true → filter f (x ∷ xs)
      ≡ x ∷ filter f xs
  passes f x xs e = ap (λ b. cond b (x ∷ filter f xs) (filter f xs)) e

  pub fails : (f : X → Bool) (x : X) (xs : List X) → f x ≡ false → filter f (x ∷ xs) ≡ filter f xs
  fails f x xs e = ap (λ b. cond b (x ∷ filter f xs) (filter f xs)) e

  -- of two tests either may come first
  pub either_first : (f g : X → Bool) (xs : List X) → filter f (filter g xs) ≡ filter g
      (filter f xs)
  either_first f g [] = refl
  either_first f g (x ∷ xs) = by (either_first f g xs) (f x) refl (g x) refl
    where
      by : filter f (filter g xs) ≡ filter g (filter f xs) → (b : Bool) → f x ≡ b → (d : Bool)
          → g x ≡ d → filter f (filter g (x ∷ xs)) ≡ filter g (filter f (x ∷ xs))
      by rest true good true also =
          ap (filter f) (passes g x xs also) ∙ passes f x (filter g xs) good
          ∙ ap (λ ys. x ∷ ys) rest
          ∙ sym (ap (filter g) (passes f x xs good) ∙ passes g x (filter f xs) also)
      by rest true good false never =
          ap (filter f) (fails g x xs never) ∙ rest
          ∙ sym (ap (filter g) (passes f x xs good) ∙ fails g x (filter f xs) never)
      by rest false never true also =
          ap (filter f) (passes g x xs also) ∙ fails f x (filter g xs) never ∙ rest
          ∙ sym (ap (filter g) (fails f x xs never))
      by rest false never false neither =
          ap (filter f) (fails g x xs neither) ∙ rest
          ∙ sym (ap (filter g) (fails f x xs never))

  -- what passes one test passes another, which then changes nothing
  pub absorbed : (g f : X → Bool) → ((x : X) → g x ≡ true → f x ≡ true) → (xs : List X)
      → filter g (filter f xs) ≡ filter g xs
  absorbed g f so [] = refl
  absorbed g f so (x ∷ xs) = by (absorbed g f so xs) (f x) refl (g x) refl
    where
      by : filter g (filter f xs) ≡ filter g xs → (b : Bool) → f x ≡ b → (d : Bool) → g x ≡ d
          → filter g (filter f (x ∷ xs)) ≡ filter g (x ∷ xs)
      by rest true good true also =
          ap (filter g) (passes f x xs good) ∙ passes g x (filter f xs) also
          ∙ ap (λ ys. x ∷ ys) rest ∙ sym (passes g x xs also)
      by rest true good false never =
          ap (filter g) (passes f x xs good) ∙ fails g x (filter f xs) never ∙ rest
          ∙ sym (fails g x xs never)
      by rest false not_f true good = let also = so x good in absurd (grind (arith, not_f, also))
      by rest false not_f false never =
          ap (filter g) (fails f x xs not_f) ∙ rest ∙ sym (fails g x xs never)

  pub in_filter : (f : X → Bool) (xs : List X) (x : X) → IsAmong xs x → f x ≡ true
      → IsAmong (filter f xs) x
  in_filter f [] x there good = there
  in_filter f (y ∷ xs) x (inl e) good =
      subst (λ ys. IsAmong ys x) (sym (passes f y xs (ap f e ∙ good))) (inl e)
  in_filter f (y ∷ xs) x (inr there) good = by (f y) (in_filter f xs x there good)
    where
      by : (b : Bool) → IsAmong (filter f xs) x → IsAmong (cond b (y ∷ filter f xs) (filter f xs)) x
      by true later = inr later
      by false later = later

  pub of_filter : (f : X → Bool) (xs : List X) (x : X) → IsAmong (filter f xs) x
      → IsAmong xs x × (f x ≡ true)
  of_filter f [] x there = absurd there
  of_filter f (y ∷ xs) x there = by (f y) refl (of_filter f xs x) there
    where
      by : (b : Bool) → f y ≡ b → (IsAmong (filter f xs) x → IsAmong xs x × (f x ≡ true))
          → IsAmong (cond b (y ∷ filter f xs) (filter f xs)) x → IsAmong (y ∷ xs) x × (f x ≡ true)
      by true e rest (inl same) = (inl same, ap f (sym same) ∙ e)
      by true e rest (inr later) = let is = rest later in (inr is.0, is.1)
      by false e rest later = let is = rest later in (inr is.0, is.1)

-- ---- places

module _ {X : Type 0} (f : X → Bool) where
  -- how many of the first elements pass, which is the place of the next one that does
  abbrev pub rank : List X → ℕ → ℕ
  rank [] i = zero
  rank (x ∷ xs) zero = zero
  rank (x ∷ xs) (suc i) = cond (f x) (suc (rank xs i)) (rank xs i)

  rank_passed : (x : X) (xs : List X) (i : ℕ) → f x ≡ true → rank (x ∷ xs) (suc i) ≡ suc (rank xs i)
  rank_passed x xs i e = ap (λ b. cond b (suc (rank xs i)) (rank xs i)) e

  rank_failed : (x : X) (xs : List X) (i : ℕ) → f x ≡ false → rank (x ∷ xs) (suc i) ≡ rank xs i
  rank_failed x xs i e = ap (λ b. cond b (suc (rank xs i)) (rank xs i)) e

  -- where an element that passes stands among those that do
  pub at_rank : (xs : List X) (i : ℕ) (x : X) → slice_get xs i ≡ Some x → f x ≡ true
      → slice_get (filter f xs) (rank xs i) ≡ Some x
  at_rank [] i x there good = absurd (grind (arith, there))
  at_rank (y ∷ xs) zero x there good =
      let e : y ≡ x = grind (arith, there) in
      subst (λ ys. slice_get ys zero ≡ Some x) (sym (passes f y xs (ap f e ∙ good))) there
  at_rank (y ∷ xs) (suc i) x there good = by (at_rank xs i x there good) (f y) refl
    where
      by : slice_get (filter f xs) (rank xs i) ≡ Some x → (b : Bool) → f y ≡ b
          → slice_get (filter f (y ∷ xs)) (rank (y ∷ xs) (suc i)) ≡ Some x
      by rest true e =
          subst (λ n. slice_get (filter f (y ∷ xs)) n ≡ Some x) (sym (rank_passed y xs i e))
          (subst (λ ys. slice_get ys (suc (rank xs i)) ≡ Some x) (sym (passes f y xs e)) rest)
      by rest false e =
          subst (λ n. slice_get (filter f (y ∷ xs)) n ≡ Some x) (sym (rank_failed y xs i e))
          (subst (λ ys. slice_get ys (rank xs i) ≡ Some x) (sym (fails f y xs e)) rest)

  -- and where it stands among all
  pub record Stood (xs : List X) (n : ℕ) (x : X) : Type 0 where
    pub at : ℕ
    pub there : slice_get xs at ≡ Some x
    pub passed : f x ≡ true
    pub ranked : rank xs at ≡ n

  pub stood : (xs : List X) (n : ℕ) (x : X) → slice_get (filter f xs) n ≡ Some x → Stood xs n x
  stood [] n x there = absurd (grind (arith, there))
  stood (y ∷ xs) n x there = by (stood xs) (f y) refl
    where
      front : ((k : ℕ) (z : X) → slice_get (filter f xs) k ≡ Some z → Stood xs k z) → (n : ℕ)
          → f y ≡ true → slice_get (y ∷ filter f xs) n ≡ Some x → Stood (y ∷ xs) n x
      front rest zero e at_n =
          let same : y ≡ x = grind (arith, at_n) in
          record { at = zero; there = at_n; passed = ap f (sym same) ∙ e; ranked = refl }
      front rest (suc k) e at_n =
          let r = rest k x at_n in
          record {
            at = suc r.at;
            there = r.there;
            passed = r.passed;
            ranked = rank_passed y xs r.at e ∙ ap suc r.ranked;
          }

      by : ((k : ℕ) (z : X) → slice_get (filter f xs) k ≡ Some z → Stood xs k z) → (b : Bool)
          → f y ≡ b → Stood (y ∷ xs) n x
      by rest true e =
          front rest n e (subst (λ ys. slice_get ys n ≡ Some x) (passes f y xs e) there)
      by rest false e =
          let r = rest n x (subst (λ ys. slice_get ys n ≡ Some x) (fails f y xs e) there) in
          record {
            at = suc r.at;
            there = r.there;
            passed = r.passed;
            ranked = rank_failed y xs r.at e ∙ r.ranked;
          }

  -- a later place has no smaller rank, and a larger one where an element between them passes
  pub rank_up : (xs : List X) (i j : ℕ) → i ≤ j → rank xs i ≤ rank xs j
  rank_up [] i j le = omega arith
  rank_up (x ∷ xs) zero j le = omega arith
  rank_up (x ∷ xs) (suc i) zero le = absurd (omega (arith, le))
  rank_up (x ∷ xs) (suc i) (suc j) le = by (f x) (rank_up xs i j (omega (arith, le)))
    where
      by : (b : Bool) → rank xs i ≤ rank xs j
          → cond b (suc (rank xs i)) (rank xs i) ≤ cond b (suc (rank xs j)) (rank xs j)
      by true rest = omega (arith, rest)
      by false rest = rest

  pub rank_below : (xs : List X) (i j : ℕ) (x : X) → slice_get xs i ≡ Some x → f x ≡ true → i < j
      → rank xs i < rank xs j
  rank_below [] i j x there good lt = absurd (grind (arith, there))
  rank_below (y ∷ xs) i zero x there good lt = absurd (omega (arith, lt))
  rank_below (y ∷ xs) zero (suc j) x there good lt =
      let e : y ≡ x = grind (arith, there) in
      let up = rank_passed y xs j (ap f e ∙ good) in
      omega (arith, up)
  rank_below (y ∷ xs) (suc i) (suc j) x there good lt =
      by (f y) (rank_below xs i j x there good (omega (arith, lt)))
    where
      by : (b : Bool) → rank xs i < rank xs j
          → cond b (suc (rank xs i)) (rank xs i) < cond b (suc (rank xs j)) (rank xs j)
      by true rest = omega (arith, rest)
      by false rest = rest

  -- of two places the one with the smaller rank is the earlier
  pub earlier : (xs : List X) (i j : ℕ) → rank xs i < rank xs j → i < j
  earlier xs i j lt = elim (below_or_not i j) [
    | inl less ↦ less
    | inr le ↦ (let up = rank_up xs j i le in absurd (omega (arith, lt, up)))
  ]
