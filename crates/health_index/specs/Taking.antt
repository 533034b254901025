-- What a checker's result makes of what the checkers of the checks saw.
use Rattle.std.specs.Prelude.{◌≡◌, ℕ, Bool, List, Option, None, Some, slice_get, slice_set}
use Rattle.checker_state.specs.Standing.{Seen, StandsFor, passing_of, with_result}

-- One more result of a checker, and how many of them see a pass then.
pub record Takes (checker : ℕ) (pass : Bool) (its : Seen) (passing : ℕ) (now : Seen) : Type 0 where
  pub takes : (n : ℕ) (results : ℕ → List Bool) → StandsFor n results its
      → StandsFor n (with_result checker pass results) now
  pub counts : (n : ℕ) (results : ℕ → List Bool) → StandsFor n results now
      → passing ≡ passing_of n results

-- It is taken at a place, where there are checkers.
abbrev pub IsTaken : (checker : ℕ) → Bool → (before : List (Option Seen)) → (place : ℕ) → Option ℕ
    → (after : List (Option Seen)) → Type 0
IsTaken checker pass before place None after =
    (slice_get before place ≡ Some None) × (after ≡ before)
IsTaken checker pass before place (Some passing) after =
    (its : Seen) × (now : Seen) × (slice_get before place ≡ Some (Some its))
    × (after ≡ slice_set before place (Some now)) × Takes checker pass its passing now
