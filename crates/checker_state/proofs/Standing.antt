-- What a value that stands for lists of results keeps of one checker, before and after a report.
use Rattle.std.proofs.Common.{◌≡◌, ◌≢◌, ◌<◌, ◌∙◌, ◌↔◌, ℕ, Bool, true, false, not, List, ◌∷◌, get_or, set, map, refl, ap, IsTrue, rules}
use Rattle.std.proofs.lemmas.Bool.{eq-eqb, ne_eqb}
use mathlib.Core.Bool.{beq}
use Rattle.checker_state.specs.View.{view_of}
use Rattle.checker_state.specs.Standing.{numbers, kept, Seen, StandsFor, with_result}
use Rattle.checker_state.proofs.Fifty.{at_number, one_written}
use Rattle.checker_state.specs.declared.checker.Checker.{Checker}

-- what is kept of fifty, by its parts
abbrev pub seen : ℕ → List Checker → Seen
seen t cells = record { threshold = t; checkers = cells }

module _ (n : ℕ) (results : ℕ
    → List Bool) (t : ℕ) (cells : List Checker) (stands : StandsFor n results (seen t cells)) where
  threshold_is : t ≡ n
  threshold_is = ap (λ (s : Seen). s.threshold) stands

  pub cells_are : cells ≡ map (λ k. kept n (results k)) numbers
  cells_are = ap (λ (s : Seen). s.checkers) stands

  module _ (at i : ℕ) (e : at ≡ i) (b : i < 50) where
    -- what is kept of the checker, and its view
    pub kept_there : (d : Checker) → get_or cells at d ≡ kept t (results i)
    kept_there d = rw (cells_are, e, threshold_is) (at_number (λ k. kept n (results k)) i d b)

    pub view_there : (d : Checker) → (get_or cells at d).view ≡ view_of n (results i)
    view_there d = ap (λ (x : Checker). x.view) (kept_there d)
        ∙ ap (λ m. view_of m (results i)) threshold_is

    -- with one more result
    module _ (pass : Bool) (x : Checker) (now : x ≡ kept t (pass ∷ results i)) where
      pub view_now : x.view ≡ view_of n (pass ∷ results i)
      view_now = ap (λ (x : Checker). x.view) now
          ∙ ap (λ m. view_of m (pass ∷ results i)) threshold_is

      pub one_more : StandsFor n (with_result i pass results) (seen t (set cells at x))
      one_more =
          let among : set (map before numbers) i x ≡ map after numbers =
          one_written before after i x b here there in
          let cells_now : set cells at x ≡ map after numbers = cc cells_are in
          let same : (t, set cells at x) ≡ (n, map after numbers) = cc threshold_is in
          ap (λ (p : ℕ × List Checker). seen (p.0) (p.1)) same
        where
          before : ℕ → Checker
          before k = kept n (results k)

          after : ℕ → Checker
          after k = kept n (with_result i pass results k)

          here : x ≡ after i
          here = rw (eq-eqb i i refl) (now ∙ ap (λ m. kept m (pass ∷ results i)) threshold_is)

          there : (k : ℕ) → k ≢ i → after k ≡ before k
          there k ne = rw (ne_eqb k i ne) refl

-- a test that two views differ
pub differ : (a b a' b' : Bool) → a ≡ a' → b ≡ b' → IsTrue (not (beq a b)) ↔ (a' ≢ b')
differ a b a' b' e f = rw (e, f) (cases a' b') where
  cases : (a b : Bool) → IsTrue (not (beq a b)) ↔ (a ≢ b)
  cases true true = search rules
  cases true false = search rules
  cases false true = search rules
  cases false false = search rules
