-- The checks of a table, and how many more it can take.
use Rattle.std.specs.Prelude.{ℕ, ◌≤◌}
use Rattle.check_model.specs.Checks.{Checks}

-- the checks, and how many more can come without memory
pub record Kept : Type 0 where
  pub checks : Checks
  pub room : ℕ

-- so many more checks want no memory
abbrev pub HasRoom : Kept → (more : ℕ) → Type 0
HasRoom kept more = more ≤ kept.room
