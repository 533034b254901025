-- The laws of fair counting and of the running sum.
use Rattle.std.proofs.Common.{◌≡◌, ◌==◌, ◌<◌, ◌+◌, ◌≤◌, ◌-◌, ◌*◌, ◌%◌, ℕ, zero, suc, Bool, List, []}
use Rattle.std.proofs.Common.{◌∷◌}
use Rattle.std.proofs.Common.{length, take, replicate, get_or, arith, refl, sym, ap, ◌∙◌, inl, inr}
use Rattle.std.proofs.Common.{subst}
use Rattle.std.proofs.Common.{if◌then◌else◌, nat_lt, length-append}
use Rattle.std.specs.List.{sum_by}
use Rattle.std.proofs.lemmas.Bool.{cases_lt, lt-ltb}
use Rattle.std.proofs.lemmas.List.{length-replicate, get_or_append_left, get_or-append_right}
use Rattle.std.proofs.lemmas.List.{get_or-replicate}
use Rattle.std.proofs.lemmas.List.Sums.{sum_by-cons, count_by-le-length}
use Rattle.considered_sets.specs.Considered.{considered, places, IsConsidered}
use Rattle.considered_sets.proofs.Places.{some_considered}
use Rattle.considered_sets.proofs.Flags.{considered_flag, place_considered}
use Rattle.weighted.specs.Choice.{laid_out, stretches, chosen}
use Rattle.weighted.specs.Laws.{times_chosen, ByWeight, OneEach, RunningSum, FairCounting}
use Rattle.weighted.proofs.Whole.{positive}
use Rattle.weighted.proofs.Counts.{times, times_laid, times_over, times_there, from_place}

-- the sum of the weights of some sets
abbrev weight_of : List ℕ → List ℕ → ℕ
weight_of weights sets = sum_by (λ place. get_or weights place 0) sets

-- that of one set more
weight_more : (weights : List ℕ) (p : ℕ) (sets : List ℕ)
    → weight_of weights (p ∷ sets) ≡ get_or weights p 0 + weight_of weights sets
weight_more weights p sets = sum_by-cons (λ place. get_or weights place 0) p sets

-- the length of the line laid out is the sum of the weights
length_laid : (weights sets : List ℕ) → length (laid_out weights sets) ≡ weight_of weights sets
length_laid weights [] = refl
length_laid weights (p ∷ sets) = omega (
  arith,
  length-append (replicate (get_or weights p 0) p) (laid_out weights sets),
  length-replicate (get_or weights p 0) p,
  weight_more weights p sets,
  length_laid weights sets,
)

-- a point of the line laid out stands where the running sum passes it
at_point : (weights sets : List ℕ) (point i : ℕ) → i < length sets
    → weight_of weights (take i sets) ≤ point → point < weight_of weights (take (i + 1) sets)
    → get_or (laid_out weights sets) point 0 ≡ get_or sets i 0
at_point weights [] point i lt low high = absurd (omega arith)
at_point weights (p ∷ sets) point zero lt low high =
    let w = get_or weights p 0 in
    let within : point < get_or weights p 0 = omega (arith, weight_more weights p []) in
    get_or_append_left (replicate w p) (laid_out weights sets) 0 point
    (omega (arith, length-replicate (get_or weights p 0) p))
    ∙ get_or-replicate w point p 0 within
at_point weights (p ∷ sets) point (suc i) lt low high =
    let w = get_or weights p 0 in
    let before : weight_of weights (take (suc i) (p ∷ sets))
    ≡ get_or weights p 0 + weight_of weights (take i sets) =
    weight_more weights p (take i sets) in
    let after : weight_of weights (take (suc i + 1) (p ∷ sets))
    ≡ get_or weights p 0 + weight_of weights (take (i + 1) sets) =
    ap (λ n. weight_of weights (take n (p ∷ sets))) (let e : suc i + 1 ≡ suc (i + 1) =
    omega arith in e)
    ∙ weight_more weights p (take (i + 1) sets) in
    get_or-append_right (replicate w p) (laid_out weights sets) w point 0 (length-replicate w p)
    (omega (arith, before))
    ∙ at_point weights sets (point - w) i (omega arith) (omega (arith, before))
    (omega (arith, before, after))

module _ (weights : List ℕ) (hs : List Bool) where
  -- the line, where some weight is above 0
  abbrev laid : List ℕ
  laid = laid_out weights (places hs)

  -- a considered set stands once among the places, and in the line as often as its weight says
  once : (k : ℕ) → IsConsidered hs k → times k (places hs) ≡ 1
  once k is = times_there 0 k k (considered hs) (omega arith) (considered_flag hs k is)

  laid_once : (k : ℕ) → IsConsidered hs k → times k laid ≡ get_or weights k 0
  laid_once k is = times_laid weights k (places hs)
      ∙ (ap (λ n. get_or weights k 0 * n) (once k is) ∙ omega arith)

  -- each set in the line is considered, and has a weight above 0
  laid_considered : (i : ℕ) → i < length laid → IsConsidered hs (get_or laid i 0)
      × (0 < get_or weights (get_or laid i 0) 0)
  laid_considered i lt =
      let r = from_place weights (places hs) i lt in
      (subst (IsConsidered hs) (r.2) (place_considered hs (r.0) (r.1)), r.3)

  -- which line it is
  is_laid : 0 < length laid → stretches weights hs ≡ laid
  is_laid some =
      ap (λ b. if b then laid else places hs) (positive weights (places hs) ∙ lt-ltb 0 _ some)

  is_even : length laid ≡ 0 → stretches weights hs ≡ places hs
  is_even none =
      ap (λ b. if b then laid else places hs) (positive weights (places hs) ∙ ap (nat_lt 0) none)

  over : (xs : List ℕ) → stretches weights hs ≡ xs → (k : ℕ) → times_chosen weights hs k ≡ times k xs
  over xs e k = times_over (stretches weights hs) k ∙ ap (times k) e

  long : (j : ℕ) → IsConsidered hs j → 0 < get_or weights j 0 → 0 < length laid
  long j is some = omega (arith, laid_once j is, count_by-le-length (λ x. x == j) laid)

  by_weight : (j : ℕ) → IsConsidered hs j → 0 < get_or weights j 0 → ByWeight weights hs
  by_weight j is some =
      let some_length = long j is some in
      let e = is_laid some_length in
      record {
        total_is = ap length e ∙ length_laid weights (places hs);
        as_often = λ k it. over laid e k ∙ laid_once k it;
        not_zero =
            λ word. subst (λ (xs : List ℕ). 0 < get_or weights (get_or xs (word % length xs) 0) 0)
            (sym e)
            (laid_considered (word % length laid) (omega (arith, some_length))).1;
      }

  one_each : ((j : ℕ) → IsConsidered hs j → get_or weights j 0 ≡ 0) → OneEach weights hs
  one_each all =
      let none : length laid ≡ 0 = elim (cases_lt 0 (length laid)) [
        | inl some ↦ let r = laid_considered 0 some in absurd (omega (arith, all _ (r.0), r.1))
        | inr le ↦ omega arith
      ] in
      let e = is_even none in
      record {
        total_is = ap length e;
        once = λ k it. over (places hs) e k ∙ once k it;
      }

  no_other : (word : ℕ) → 0 < length hs → IsConsidered hs (chosen weights hs word)
  no_other word some = elim (cases_lt 0 (length laid)) [
    | inl some_length ↦
        subst (λ (xs : List ℕ). IsConsidered hs (get_or xs (word % length xs) 0))
        (sym (is_laid some_length))
        (laid_considered (word % length laid) (omega (arith, some_length))).0
    | inr le ↦
        subst (λ (xs : List ℕ). IsConsidered hs (get_or xs (word % length xs) 0))
        (sym (is_even (omega arith)))
        (place_considered hs (word % length (places hs)) (omega (arith, some_considered hs some)))
  ]

pub running : RunningSum
running weights hs j is some word i lt low high =
    let e = is_laid weights hs (long weights hs j is some) in
    ap (λ l. get_or l (word % length l) 0) e
    ∙ at_point weights (places hs) (word % length (laid_out weights (places hs))) i lt (rw e at low)
    (rw e at high)

pub fair : FairCounting
fair = record { by_weight = by_weight; one_each = one_each; no_other = no_other }
