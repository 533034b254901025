-- A walk on its way: the nodes that it has left, and their marks.
use Rattle.std.specs.Prelude.{◌≡◌, ◌≤◌, ℕ, Bool, true, List, length}
use Rattle.std.specs.Vec.{vec_capacity}
use Rattle.std.specs.List.{Contains, count_by}
use Rattle.std.specs.declared.vec.Vec.{Vec}
use Rattle.health_valves.specs.Valves.{value_in}
use Rattle.health_valves.specs.Walk.{EachOnce, FeedersFirst, PathsEnd}

-- how many are marked
abbrev pub trues : List Bool → ℕ
trues marks = count_by (λ b. b) marks

-- as many valves are listed as are marked, and there is room for all
pub record Fills {Z W : Type 0} (cone : Vec ℕ Z) (marks : Vec Bool W) : Type 0 where
  pub as_many : length cone.items ≡ trues marks.items
  pub room : length marks.items ≤ vec_capacity cone

-- the nodes that are marked, each once; and before all that it feeds, where no path goes on for ever
pub record IsListed (feeds : ℕ → ℕ → Type 0) (walk : List ℕ) (marks : List Bool) : Type 0 where
  pub listed : (y : ℕ) → value_in marks y ≡ true → Contains walk y
  pub marked : (y : ℕ) → Contains walk y → value_in marks y ≡ true
  pub once : EachOnce walk
  pub first : PathsEnd feeds 64 → FeedersFirst feeds walk
