-- A walk along one list, by how many cells are left.
use Rattle.std.specs.Prelude.{◌≡◌, ◌≤◌, ◌<◌, ◌-◌, ℕ, List, length, drop, slice_index}

-- the last so many of a list
abbrev pub last_of : List ℕ → ℕ → List ℕ
last_of cells left = drop (length cells - left) cells

-- no more are left than there are, and the walk stands at the first of them
pub record IsOnWay (cells : List ℕ) (at left : ℕ) : Type 0 where
  pub long : left ≤ length cells
  pub first : 0 < left → at ≡ slice_index cells (length cells - left)
