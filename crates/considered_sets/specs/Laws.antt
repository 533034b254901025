-- Which sets are considered, said set by set.
use Rattle.std.specs.Prelude.{◌<◌, ◌↔◌, ℕ, Bool, List, length, slice_index, Contains}
use Rattle.considered_sets.specs.Considered.{places, IsConsidered}

-- The considered sets are listed in the group's order, each once.
pub record PlacesAreConsidered : Type 0 where
  pub listed : (healthy : List Bool) (k : ℕ) → Contains (places healthy) k ↔ IsConsidered healthy k
  pub in_order : (healthy : List Bool) (i j : ℕ) → i < j → j < length (places healthy)
      → slice_index (places healthy) i < slice_index (places healthy) j

-- Some set of a group is considered.
abbrev pub SomeIsConsidered : Type 0
SomeIsConsidered = (healthy : List Bool) → 0 < length healthy → 0 < length (places healthy)
