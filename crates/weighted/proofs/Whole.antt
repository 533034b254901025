-- The line that is walked is the line that is chosen from.
use Rattle.std.proofs.Common.{◌≡◌, ◌<◌, ◌+◌, ◌%◌, ℕ, zero, suc, Bool, true, false, not, ◌||◌, List}
use Rattle.std.proofs.Common.{[], ◌∷◌}
use Rattle.std.proofs.Common.{◌++◌, length, map, replicate, arith, refl, sym, ap, ◌∙◌, nat_lt}
use Rattle.std.proofs.Common.{if◌then◌else◌}
use Rattle.std.proofs.Common.{get_or, length-append}
use Rattle.std.specs.List.{list_any}
use Rattle.std.proofs.lemmas.Bool.{lt-ltb}
use Rattle.std.proofs.lemmas.List.{length-replicate}
use Rattle.considered_sets.specs.Considered.{places, some_healthy, places_from}
use Rattle.considered_sets.proofs.Places.{noted_is, some_considered}
use Rattle.weighted.specs.Choice.{laid_out, stretches}
use Rattle.weighted.specs.Line.{at_word, by_weight, one_each, rest_of_line}

laid_is : (all : Bool) (weights : List ℕ) (at : ℕ) (hs : List Bool)
    → rest_of_line (by_weight all) weights at hs
    ≡ laid_out weights (places_from at (map (λ h. h || all) hs))
laid_is all weights at [] = refl
laid_is all weights at (true ∷ hs) =
    ap (λ l. replicate (get_or weights at 0) at ++ l) (laid_is all weights (at + 1) hs)
laid_is true weights at (false ∷ hs) =
    ap (λ l. replicate (get_or weights at 0) at ++ l) (laid_is true weights (at + 1) hs)
laid_is false weights at (false ∷ hs) = laid_is false weights (at + 1) hs

even_is : (all : Bool) (weights : List ℕ) (at : ℕ) (hs : List Bool)
    → rest_of_line (one_each all) weights at hs ≡ places_from at (map (λ h. h || all) hs)
even_is all weights at [] = refl
even_is all weights at (true ∷ hs) = ap (λ l. at ∷ l) (even_is all weights (at + 1) hs)
even_is true weights at (false ∷ hs) = ap (λ l. at ∷ l) (even_is true weights (at + 1) hs)
even_is false weights at (false ∷ hs) = even_is false weights (at + 1) hs

-- where a healthy set has a stretch, some set is healthy
pub some_where_laid : (weights : List ℕ) (at : ℕ) (hs : List Bool)
    → 0 < length (rest_of_line (by_weight false) weights at hs) → some_healthy hs ≡ true
some_where_laid weights at [] lt = absurd (omega arith)
some_where_laid weights at (true ∷ hs) lt = refl
some_where_laid weights at (false ∷ hs) lt = some_where_laid weights (at + 1) hs lt

-- a sum is above 0 exactly where one of its parts is
either : (m n : ℕ) → nat_lt 0 (m + n) ≡ (nat_lt 0 m || nat_lt 0 n)
either zero n = let e : 0 + n ≡ n = omega arith in ap (nat_lt 0) e
either (suc m) n = lt-ltb 0 (suc m + n) (omega arith)
    ∙ sym (ap (λ b. b || nat_lt 0 n) (lt-ltb 0 (suc m) (omega arith)))

-- some weight is above 0 exactly where the line laid out is not empty
pub positive : (weights sets : List ℕ)
    → list_any (λ place. nat_lt 0 (get_or weights place 0)) sets
    ≡ nat_lt 0 (length (laid_out weights sets))
positive weights [] = refl
positive weights (p ∷ sets) =
    let w = get_or weights p 0 in
    let e : get_or weights p 0 + length (laid_out weights sets)
    ≡ length (laid_out weights (p ∷ sets)) =
    omega (
      arith,
      length-append (replicate (get_or weights p 0) p) (laid_out weights sets),
      length-replicate (get_or weights p 0) p,
    ) in
    ap (λ b. nat_lt 0 w || b) (positive weights sets)
    ∙ (sym (either w (length (laid_out weights sets))) ∙ ap (nat_lt 0) e)

module _ (weights : List ℕ) (hs : List Bool) (s : Bool) (is : s ≡ some_healthy hs) where
  whole_laid : rest_of_line (by_weight (not s)) weights 0 hs ≡ laid_out weights (places hs)
  whole_laid = laid_is (not s) weights 0 hs ∙ ap (laid_out weights) (noted_is s hs is)

  pub whole_even : rest_of_line (one_each (not s)) weights 0 hs ≡ places hs
  whole_even = even_is (not s) weights 0 hs ∙ noted_is s hs is

  abbrev line_if : Bool → List ℕ
  line_if b = if b then laid_out weights (places hs) else places hs

  -- some set has a chance where each has one
  pub some_even : 0 < length hs → 0 < length (rest_of_line (one_each (not s)) weights 0 hs)
  some_even some = omega (arith, ap length whole_even, some_considered hs some)

  pub line_by_weight : 0 < length (rest_of_line (by_weight (not s)) weights 0 hs)
      → rest_of_line (by_weight (not s)) weights 0 hs ≡ stretches weights hs
  line_by_weight lt =
      let some : 0 < length (laid_out weights (places hs)) = rw whole_laid at lt in
      whole_laid ∙ sym (ap line_if (positive weights (places hs) ∙ lt-ltb 0 _ some))

  pub line_even : length (rest_of_line (by_weight (not s)) weights 0 hs) ≡ 0
      → rest_of_line (one_each (not s)) weights 0 hs ≡ stretches weights hs
  line_even none =
      let no : length (laid_out weights (places hs)) ≡ 0 = rw whole_laid at none in
      whole_even ∙ sym (ap line_if (positive weights (places hs) ∙ ap (nat_lt 0) no))

-- the set at the point of a line that a word names
pub chosen_of : (xs ys : List ℕ) (word n point result : ℕ) → xs ≡ ys → n ≡ length xs
    → point ≡ word % n → result ≡ get_or xs point 0 → result ≡ at_word ys word
chosen_of xs ys word n point result e f at r = r
    ∙ (ap (λ m. get_or xs m 0) (at ∙ ap (λ m. word % m) f) ∙ ap (λ l. at_word l word) e)
