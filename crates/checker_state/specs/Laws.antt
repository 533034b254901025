-- Laws on views and on what stands for results.
use Rattle.std.specs.Prelude.{◌≡◌, ◌<◌, ℕ, Bool, List, ◌∷◌}
use Rattle.checker_state.specs.View.{view_of, EndsRun, IsView}
use Rattle.checker_state.specs.Standing.{Seen, StandsFor}

-- The view is the result of the last place at which n equal results in a row end, and pass where there is none.
abbrev pub ViewEndsTheLastRow : Type 0
ViewEndsTheLastRow = (n : ℕ) (results : List Bool) → 0 < n
    → IsView n results (view_of n results)

-- No other result is.
abbrev pub OneView : Type 0
OneView = (n : ℕ) (results : List Bool) (a b : Bool) → 0 < n
    → IsView n results a → IsView n results b → a ≡ b

-- One more result becomes the view where it ends a row of n, and else leaves the view.
pub record OneMoreResult : Type 0 where
  pub turns : (n : ℕ) (r : Bool) (results : List Bool) → EndsRun n r (r ∷ results) 0
      → view_of n (r ∷ results) ≡ r
  pub stays : (n : ℕ) (r : Bool) (results : List Bool) → ¬ EndsRun n r (r ∷ results) 0
      → view_of n (r ∷ results) ≡ view_of n results

-- What stands for lists of results is one value.
abbrev pub OneStanding : Type 0
OneStanding = (n : ℕ) (results : ℕ → List Bool) (a b : Seen)
    → StandsFor n results a → StandsFor n results b → a ≡ b

-- The results of the fifty checkers alone count.
abbrev pub FiftyAlone : Type 0
FiftyAlone = (n : ℕ) (results others : ℕ → List Bool) (seen : Seen)
    → ((k : ℕ) → k < 50 → results k ≡ others k)
    → StandsFor n results seen → StandsFor n others seen
