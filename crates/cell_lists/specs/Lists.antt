-- Lists of cells, as contracts see them.
use Rattle.std.specs.Prelude.{◌≡◌, ◌<◌, ◌==◌, ℕ, List, [], ◌∷◌, Option, None, Some, slice_index_or, slice_set, if◌then◌else◌}
use Rattle.std.specs.List.{Contains}

-- the cells of each owner, how many cells there are, in lists or not, and how many more owners and
-- cells want no memory
pub record Lists : Type 0 where
  pub lists : List (List ℕ)
  pub cells : ℕ
  pub owners_room : ℕ
  pub cells_room : ℕ

-- the cells of an owner, the one that came last in front; none for an owner that isn't there
abbrev pub list_at : List (List ℕ) → ℕ → List ℕ
list_at lists owner = slice_index_or lists owner []

abbrev pub list_of : Lists → ℕ → List ℕ
list_of all owner = list_at all.lists owner

-- an owner has another list
abbrev pub with_list : ℕ → List ℕ → Lists → Lists
with_list owner cells all = record all { lists = slice_set all.lists owner cells }

-- a list with a cell fewer
abbrev pub without : ℕ → List ℕ → List ℕ
without cell [] = []
without cell (c ∷ cs) = if c == cell then cs else c ∷ without cell cs

-- the first of a list
abbrev pub first_of : List ℕ → Option ℕ
first_of [] = None
first_of (c ∷ cs) = Some c

-- the cell stands in no list
abbrev pub IsFree : List (List ℕ) → ℕ → Type 0
IsFree lists cell = (owner : ℕ) → Contains (list_at lists owner) cell → ⊥

-- each cell stands once
abbrev pub EachOnce : List ℕ → Type 0
EachOnce [] = Unit {0}
EachOnce (c ∷ cs) = (Contains cs c → ⊥) × EachOnce cs

-- Each cell that stands in a list is one of so many, and stands there once and in no other list.
pub record AreApart (lists : List (List ℕ)) (cells : ℕ) : Type 0 where
  pub within : (owner cell : ℕ) → Contains (list_at lists owner) cell → cell < cells
  pub once : (owner : ℕ) → EachOnce (list_at lists owner)
  pub alone : (owner other cell : ℕ) → Contains (list_at lists owner) cell
      → Contains (list_at lists other) cell → owner ≡ other
