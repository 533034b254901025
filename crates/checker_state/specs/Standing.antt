-- What is kept of lists of results, for which it stands.
use Rattle.std.specs.Prelude.{◌≡◌, ◌==◌, ℕ, min, Bool, true, List, [], ◌∷◌, map, count_by, if◌then◌else◌}
use Rattle.std.specs.List.{range_with_len}
use Rattle.checker_state.specs.View.{view_of, run_of}
use Rattle.checker_state.specs.declared.checker.Checker.{Checker}

-- the fifty checkers, by their numbers 0 to 49 (own)
unfoldable pub numbers : List ℕ
numbers = range_with_len 0 50

-- the newest result, and pass before the first
abbrev pub last_of : List Bool → Bool
last_of [] = true
last_of (r ∷ before) = r

-- what is kept of one checker: its view, its last result, and how often that came in a row, up to the threshold
abbrev pub kept : (n : ℕ) → List Bool → Checker
kept n results = record {
  view = view_of n results;
  last = last_of results;
  run = min n (run_of (last_of results) results);
}

-- what is kept of fifty
pub record Seen : Type 0 where
  pub threshold : ℕ
  pub checkers : List Checker

-- It stands for a list of results of each checker.
abbrev pub StandsFor : (n : ℕ) → (results : ℕ → List Bool) → Seen → Type 0
StandsFor n results seen = seen ≡ record { threshold = n; checkers = map (λ k. kept n (results k)) numbers }

-- no results of any checker
abbrev pub nothing : ℕ → List Bool
nothing k = []

-- one more result of one checker
abbrev pub with_result : (checker : ℕ) → (pass : Bool) → (ℕ → List Bool) → ℕ → List Bool
with_result checker pass results k = if k == checker then pass ∷ results k else results k

-- how many of the fifty see a pass
abbrev pub passing_of : (n : ℕ) → (ℕ → List Bool) → ℕ
passing_of n results = count_by (λ k. view_of n (results k)) numbers
