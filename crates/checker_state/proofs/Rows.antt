-- Rows of equal results, and the last place at which one ends.
use Rattle.std.proofs.Common.{◌≡◌, ◌≤◌, ◌<◌, ℕ, zero, suc, Bool, true, false, List, [], ◌∷◌, take, drop, replicate, arith, refl, sym, ap, ◌∙◌, inl, inr, subst, if◌then◌else◌}
use Rattle.std.proofs.lemmas.Bool.{le-leb, lt-leb, cases_order}
use Rattle.std.proofs.lemmas.Bool.Decides.{leb_tells}
use Rattle.checker_state.specs.View.{same, run_of, view_of, EndsRun, IsLastRow, IsView}

same_refl : (r : Bool) → same r r ≡ true
same_refl true = refl
same_refl false = refl

-- a run of n ends in a row of n
pub row_of_run : (n : ℕ) (r : Bool) (xs : List Bool) → n ≤ run_of r xs → take n xs ≡ replicate n r
row_of_run zero r xs h = refl
row_of_run (suc n) r [] h = absurd (omega arith)
row_of_run (suc n) true (true ∷ xs) h = ap (λ l. true ∷ l) (row_of_run n true xs (omega arith))
row_of_run (suc n) true (false ∷ xs) h = absurd (omega arith)
row_of_run (suc n) false (true ∷ xs) h = absurd (omega arith)
row_of_run (suc n) false (false ∷ xs) h = ap (λ l. false ∷ l) (row_of_run n false xs (omega arith))

-- a row of n is in a run of n
pub run_of_row : (n : ℕ) (r : Bool) (xs : List Bool) → take n xs ≡ replicate n r → n ≤ run_of r xs
run_of_row zero r xs h = omega arith
run_of_row (suc n) r [] h = absurd (let e : ⊥ = cc in e)
run_of_row (suc n) true (true ∷ xs) h = let rest : take n xs ≡ replicate n true = cc in
    omega (arith, run_of_row n true xs rest)
run_of_row (suc n) true (false ∷ xs) h = absurd (let e : ⊥ = cc in e)
run_of_row (suc n) false (true ∷ xs) h = absurd (let e : ⊥ = cc in e)
run_of_row (suc n) false (false ∷ xs) h = let rest : take n xs ≡ replicate n false = cc in
    omega (arith, run_of_row n false xs rest)

-- no row of one or more ends in nothing
no_row : (n : ℕ) (r : Bool) (place : ℕ) → 0 < n → ¬ EndsRun n r [] place
no_row zero r place h row = absurd (omega arith)
no_row (suc n) r zero h row = let e : ⊥ = cc in e
no_row (suc n) r (suc place) h row = let e : ⊥ = cc in e

-- a row has one result
one_result : (n : ℕ) (a b : Bool) (xs : List Bool) → 0 < n → xs ≡ replicate n a → xs ≡ replicate n b
    → a ≡ b
one_result zero a b xs h e f = absurd (omega arith)
one_result (suc n) a b xs h e f = cc

-- which result a row that ends in front has
front_result : (n : ℕ) (r other : Bool) (before : List Bool) → 0 < n
    → take n (r ∷ before) ≡ replicate n other → other ≡ r
front_result zero r other before h row = absurd (omega arith)
front_result (suc n) r other before h row = cc

-- a result that ends a run of n becomes the view, and another leaves it
turns : (n : ℕ) (r : Bool) (before : List Bool) → n ≤ run_of r (r ∷ before)
    → view_of n (r ∷ before) ≡ r
turns n r before long =
    ap (λ t. if t then r else view_of n before) (le-leb n (run_of r (r ∷ before)) long)

stays : (n : ℕ) (r : Bool) (before : List Bool) → run_of r (r ∷ before) < n
    → view_of n (r ∷ before) ≡ view_of n before
stays n r before few =
    ap (λ t. if t then r else view_of n before) (lt-leb n (run_of r (r ∷ before)) few)

module _ (n : ℕ) (some : 0 < n) where
  -- where no row ends in front, all stays
  none_in_front : (r : Bool) (before : List Bool) → run_of r (r ∷ before) < n → (other : Bool)
      → ¬ EndsRun n other (r ∷ before) 0
  none_in_front r before few other row =
      let e : other ≡ r = front_result n r other before some row in
      let same_row : take n (r ∷ before) ≡ replicate n r = row ∙ ap (replicate n) e in
      omega (arith, run_of_row n r (r ∷ before) same_row)

  further : (r : Bool) (before : List Bool) (view : Bool) → run_of r (r ∷ before) < n
      → IsView n before view → IsView n (r ∷ before) view
  further r before view few (inl (place, last)) = inl (
    suc place,
    record {
      ends = last.ends;
      none_newer = newer;
    },
  ) where
    newer : (k : ℕ) (other : Bool) → k < suc place → ¬ EndsRun n other (r ∷ before) k
    newer zero other h = none_in_front r before few other
    newer (suc k) other h = last.none_newer k other (omega arith)
  further r before view few (inr (none, e)) = inr (nowhere, e) where
    nowhere : (place : ℕ) (other : Bool) → ¬ EndsRun n other (r ∷ before) place
    nowhere zero other = none_in_front r before few other
    nowhere (suc k) other = none k other

  pub view_is : (results : List Bool) → IsView n results (view_of n results)
  view_is [] = inr (λ place r. no_row n r place some, refl)
  view_is (r ∷ before) = elim (leb_tells n (run_of r (r ∷ before))) [
    | inl (_, long) ↦ subst (IsView n (r ∷ before)) (sym (turns n r before long)) (inl (
      0,
      record {
        ends = row_of_run n r (r ∷ before) long;
        none_newer = λ newer other h _. omega (arith, h);
      },
    ))
    | inr (_, few) ↦
        subst (IsView n (r ∷ before)) (sym (stays n r before few))
        (further r before (view_of n before) few (view_is before))
  ]

  -- of two last places none is newer
  same_place : (results : List Bool) (a b : Bool) (p q : ℕ) → IsLastRow n a results p
      → IsLastRow n b results q → p ≡ q
  same_place results a b p q x y = elim (cases_order p q) [
    | inl e ↦ e
    | inr (inl lt) ↦ absurd (y.none_newer p a lt x.ends)
    | inr (inr gt) ↦ absurd (x.none_newer q b gt y.ends)
  ]

  pub one_view : (results : List Bool) (a b : Bool) → IsView n results a → IsView n results b
      → a ≡ b
  one_view results a b (inl (p, x)) (inl (q, y)) =
      let e : p ≡ q = same_place results a b p q x y in
      one_result n a b (take n (drop p results)) some x.ends (rw e y.ends)
  one_view results a b (inl (p, x)) (inr (none, e)) = absurd (none p a x.ends)
  one_view results a b (inr (none, e)) (inl (q, y)) = absurd (none q b y.ends)
  one_view results a b (inr (none, e)) (inr (none', e')) = e ∙ sym e'

-- what one more result does, said by rows
pub row_turns : (n : ℕ) (r : Bool) (results : List Bool) → EndsRun n r (r ∷ results) 0
    → view_of n (r ∷ results) ≡ r
row_turns n r results row = turns n r results (run_of_row n r (r ∷ results) row)

pub no_row_stays : (n : ℕ) (r : Bool) (results : List Bool) → ¬ EndsRun n r (r ∷ results) 0
    → view_of n (r ∷ results) ≡ view_of n results
no_row_stays n r results none = elim (leb_tells n (run_of r (r ∷ results))) [
  | inl (_, long) ↦ absurd (none (row_of_run n r (r ∷ results) long))
  | inr (_, few) ↦ stays n r results few
]
