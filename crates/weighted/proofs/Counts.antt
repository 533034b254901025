-- How often a set stands in the line.
use Rattle.std.proofs.Common.{◌≡◌, ◌≢◌, ◌==◌, ◌<◌, ◌+◌, ◌-◌, ◌*◌, ◌%◌, ℕ, zero, suc, Bool, true}
use Rattle.std.proofs.Common.{false, cond}
use Rattle.std.proofs.Common.{List, [], ◌∷◌, length, map, replicate, get_or, arith, refl, sym, ap}
use Rattle.std.proofs.Common.{◌∙◌, inl}
use Rattle.std.proofs.Common.{inr, subst, length-append}
use Rattle.std.specs.List.{range_with_len, count_by}
use Rattle.std.proofs.lemmas.Bool.{cases_eq, cases_lt, eq-eqb, ne_eqb}
use Rattle.std.proofs.lemmas.List.{length-replicate, get_or_append_left, get_or-append_right}
use Rattle.std.proofs.lemmas.List.{get_or-replicate}
use Rattle.std.proofs.lemmas.List.Folds.{fold-map, sum_by-replicate}
use Rattle.std.proofs.lemmas.List.FromFn.{fill_by_all}
use Rattle.std.proofs.lemmas.List.Sums.{sum_by-cons, sum_by-append}
use Rattle.std.proofs.Math.Nat.{mod-eq_of_lt}
use Rattle.considered_sets.specs.Considered.{places_from}
use Rattle.weighted.specs.Choice.{laid_out}

-- how often a number stands in a list
abbrev pub times : ℕ → List ℕ → ℕ
times k xs = count_by (λ x. x == k) xs

times_same : (k p : ℕ) (xs : List ℕ) → p ≡ k → times k (p ∷ xs) ≡ 1 + times k xs
times_same k p xs e = sum_by-cons (λ x. cond (x == k) 1 0) p xs
    ∙ ap (λ b. cond b 1 0 + times k xs) (eq-eqb p k e)

times_other : (k p : ℕ) (xs : List ℕ) → p ≢ k → times k (p ∷ xs) ≡ times k xs
times_other k p xs ne = sum_by-cons (λ x. cond (x == k) 1 0) p xs
    ∙ (ap (λ b. cond b 1 0 + times k xs) (ne_eqb p k ne) ∙ omega arith)

-- a place stands among the places from another on, below which none stands
times_below : (at k : ℕ) (hs : List Bool) → k < at → times k (places_from at hs) ≡ 0
times_below at k [] lt = refl
times_below at k (true ∷ hs) lt = times_other k at (places_from (at + 1) hs) (λ e. omega (arith, e))
    ∙ times_below (at + 1) k hs (omega arith)
times_below at k (false ∷ hs) lt = times_below (at + 1) k hs (omega arith)

pub times_there : (at j k : ℕ) (hs : List Bool) → at + j ≡ k → get_or hs j false ≡ true
    → times k (places_from at hs) ≡ 1
times_there at j k [] e healthy = absurd (let no : ⊥ = cc in no)
times_there at zero k (true ∷ hs) e healthy =
    times_same k at (places_from (at + 1) hs) (omega arith)
    ∙ ap (λ n. 1 + n) (times_below (at + 1) k hs (omega arith))
times_there at zero k (false ∷ hs) e healthy = absurd (let no : ⊥ = cc in no)
times_there at (suc j) k (true ∷ hs) e healthy =
    times_other k at (places_from (at + 1) hs) (λ same. omega arith)
    ∙ times_there (at + 1) j k hs (omega arith) healthy
times_there at (suc j) k (false ∷ hs) e healthy = times_there (at + 1) j k hs (omega arith) healthy

-- how much one element adds
abbrev one_of : ℕ → ℕ → ℕ
one_of k x = cond (x == k) 1 0

-- a place that is repeated
times_repeated : (k p n : ℕ) → times k (replicate n p) ≡ n * one_of k p
times_repeated k p n = sum_by-replicate (one_of k) n p

-- in the line laid out a place stands as often as its weight says
pub times_laid : (weights : List ℕ) (k : ℕ) (sets : List ℕ)
    → times k (laid_out weights sets) ≡ get_or weights k 0 * times k sets
times_laid weights k [] = omega arith
times_laid weights k (p ∷ sets) =
    let w = get_or weights p 0 in
    let split = sum_by-append (one_of k) (replicate w p) (laid_out weights sets) in
    let rest : times k (laid_out weights sets) ≡ get_or weights k 0 * times k sets =
    times_laid weights k sets in
    elim (cases_eq p k) [
      | inl e ↦
          let own : times k (replicate (get_or weights p 0) p) ≡ get_or weights p 0 * 1 =
          times_repeated k p w ∙ ap (λ b. w * cond b 1 0) (eq-eqb p k e) in
          let weight : get_or weights p 0 ≡ get_or weights k 0 = ap (λ x. get_or weights x 0) e in
          let sums : times k (laid_out weights (p ∷ sets))
          ≡ get_or weights k 0 * (1 + times k sets) = split
          ∙ omega (arith, own, rest, weight) in
          sums ∙ ap (λ n. get_or weights k 0 * n) (sym (times_same k p sets e))
      | inr ne ↦
          let own : times k (replicate (get_or weights p 0) p) ≡ get_or weights p 0 * 0 =
          times_repeated k p w ∙ ap (λ b. w * cond b 1 0) (ne_eqb p k ne) in
          let sums : times k (laid_out weights (p ∷ sets)) ≡ get_or weights k 0 * times k sets =
          split ∙ omega (arith, own, rest) in
          sums ∙ ap (λ n. get_or weights k 0 * n) (sym (times_other k p sets ne))
    ]

-- the words 0 to n - 1 go over a line of n
pub times_over : (xs : List ℕ) (k : ℕ)
    → count_by (λ word. get_or xs (word % length xs) 0 == k) (range_with_len 0 (length xs))
    ≡ times k xs
times_over xs k =
    let f : ℕ → ℕ = λ word. get_or xs (word % length xs) 0 in
    let all : xs ≡ map f (range_with_len 0 (length xs)) =
    fill_by_all f xs (length xs) 0 refl (λ i lt. sym (ap (λ m. get_or xs m 0) (mod-eq_of_lt lt))) in
    sym (fold-map (λ a x. a + one_of k x) f 0 (range_with_len 0 (length xs)))
    ∙ ap (times k) (sym all)

-- each place in the line laid out comes from one of some weight
pub from_place : (weights sets : List ℕ) (i : ℕ) → i < length (laid_out weights sets)
    → (m : ℕ) × (m < length sets) × (get_or sets m 0 ≡ get_or (laid_out weights sets) i 0)
    × (0 < get_or weights (get_or (laid_out weights sets) i 0) 0)
from_place weights [] i lt = absurd (omega arith)
from_place weights (p ∷ sets) i lt =
    let w = get_or weights p 0 in
    let long = length-replicate (get_or weights p 0) p in
    elim (cases_lt i w) [
      | inl here ↦
          let e : get_or (laid_out weights (p ∷ sets)) i 0 ≡ p =
          get_or_append_left (replicate w p) (laid_out weights sets) 0 i (omega (arith, long))
          ∙ get_or-replicate w i p 0 here in
          (0, omega arith, sym e, rw e (omega arith))
      | inr there ↦
          let e : get_or (laid_out weights (p ∷ sets)) i 0
          ≡ get_or (laid_out weights sets) (i - get_or weights p 0) 0 =
          get_or-append_right (replicate w p) (laid_out weights sets) w i 0 long there in
          let within : i - get_or weights p 0 < length (laid_out weights sets) =
          omega (
            arith,
            length-append (replicate (get_or weights p 0) p) (laid_out weights sets),
            long,
          ) in
          let r = from_place weights sets (i - w) within in (
            suc (r.0),
            omega (arith, r.1),
            r.2
                ∙ sym e,
            subst (λ v. 0 < get_or weights v 0) (sym e) (r.3),
          )
    ]
