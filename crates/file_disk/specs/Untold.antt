-- A disk that tells nothing of its bytes, seen as its count of faults.
use Rattle.std.specs.Prelude.{ℕ, List, Option, None}

-- what it reads as, what a crash may leave, the moment, and what a crash since a moment might have left
abbrev pub untold : ℕ → Option (List ℕ)
untold faults = None

abbrev pub no_image : ℕ → List ℕ → Type 0
no_image faults bytes = ⊥

abbrev pub no_moment : ℕ → ℕ
no_moment faults = 0

abbrev pub none_since : ℕ → ℕ → List ℕ → Type 0
none_since faults moment bytes = ⊥
