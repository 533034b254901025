-- What a group's weights come to over all words.
use Rattle.std.specs.Prelude.{◌≡◌, ◌==◌, ◌<◌, ◌≤◌, ◌+◌, ◌%◌, ℕ, Bool, List, length, take, count_by, sum_by}
use Rattle.std.specs.Prelude.{slice_index}
use Rattle.std.specs.List.{range_with_len}
use Rattle.considered_sets.specs.Considered.{places, IsConsidered}
use Rattle.weighted.specs.Choice.{total, chosen}

-- how many of the words 0 to total - 1 choose a set
abbrev pub times_chosen : (weights : List ℕ) → (healthy : List Bool) → ℕ → ℕ
times_chosen weights healthy k =
    count_by (λ word. chosen weights healthy word == k) (range_with_len 0 (total weights healthy))

-- Some considered set has a weight above 0: of the words 0 to total - 1 each considered set is chosen by as
-- many as its weight says, and never is a set of weight 0.
pub record ByWeight (weights : List ℕ) (healthy : List Bool) : Type 0 where
  pub total_is : total weights healthy ≡ sum_by (λ place. slice_index weights place) (places healthy)
  pub as_often : (k : ℕ) → IsConsidered healthy k → times_chosen weights healthy k ≡ slice_index weights k
  pub not_zero : (word : ℕ) → 0 < slice_index weights (chosen weights healthy word)

-- All considered weights are 0: each considered set is chosen by one of these words.
pub record OneEach (weights : List ℕ) (healthy : List Bool) : Type 0 where
  pub total_is : total weights healthy ≡ length (places healthy)
  pub once : (k : ℕ) → IsConsidered healthy k → times_chosen weights healthy k ≡ 1

-- Where some considered set has a weight above 0, the chosen one is the first whose running sum of weights
-- exceeds `word mod total`.
abbrev pub RunningSum : Type 0
RunningSum = (weights : List ℕ) (healthy : List Bool)
    → (j : ℕ) → IsConsidered healthy j → 0 < slice_index weights j
    → (word i : ℕ) → i < length (places healthy)
    → sum_by (λ place. slice_index weights place) (take i (places healthy)) ≤ word % total weights healthy
    → word % total weights healthy
    < sum_by (λ place. slice_index weights place) (take (i + 1) (places healthy))
    → chosen weights healthy word ≡ slice_index (places healthy) i

-- The law of fair counting: by weight where some considered weight is above 0, else once each. And no word
-- whatever chooses a set that is not considered.
pub record FairCounting : Type 0 where
  pub by_weight : (weights : List ℕ) (healthy : List Bool) (j : ℕ) → IsConsidered healthy j
      → 0 < slice_index weights j → ByWeight weights healthy
  pub one_each : (weights : List ℕ) (healthy : List Bool)
      → ((j : ℕ) → IsConsidered healthy j → slice_index weights j ≡ 0) → OneEach weights healthy
  pub no_other : (weights : List ℕ) (healthy : List Bool) (word : ℕ) → 0 < length healthy
      → IsConsidered healthy (chosen weights healthy word)
