-- What is chosen, said set by set.
use Rattle.std.specs.Prelude.{◌≡◌, ◌≢◌, ◌<◌, ◌≤◌, ◌+◌, ◌%◌, ℕ, Bool, List, length, min, slice_index}
use Rattle.considered_sets.specs.Considered.{places, IsConsidered}
use Rattle.multivalue.specs.Choice.{chosen}

-- Of the considered sets eight are chosen, or all where they are fewer, and none twice. They follow one another in cyclic
-- order, and where they are more than eight the first is that of the place `word mod count`.
pub record EightAtMost : Type 0 where
  pub as_many : (healthy : List Bool) (word : ℕ) → length (chosen healthy word) ≡ min 8 (length (places healthy))
  pub each_considered : (healthy : List Bool) (word j : ℕ) → j < length (chosen healthy word)
      → IsConsidered healthy (slice_index (chosen healthy word) j)
  pub none_twice : (healthy : List Bool) (word i j : ℕ) → i < j → j < length (chosen healthy word)
      → slice_index (chosen healthy word) i ≢ slice_index (chosen healthy word) j
  pub few : (healthy : List Bool) (word : ℕ) → length (places healthy) ≤ 8 → chosen healthy word ≡ places healthy
  pub many : (healthy : List Bool) (word j : ℕ) → 8 < length (places healthy) → j < 8
      → slice_index (chosen healthy word) j
      ≡ slice_index (places healthy) ((word % length (places healthy) + j) % length (places healthy))
