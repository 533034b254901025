-- The choice among the sets of a weighted group (Route 53 Developer Guide, "Weighted routing"). A set is
-- named by its place in the group, from 0 on.
use Rattle.std.specs.Prelude.{ℕ, ◌%◌, Bool, List, length, replicate, flat_map, nat_lt, slice_index}
use Rattle.std.specs.Prelude.{if◌then◌else◌}
use Rattle.std.specs.List.{list_any}
use Rattle.considered_sets.specs.Considered.{places}

-- Sets laid end to end, each over a stretch as long as its weight.
abbrev pub laid_out : (weights : List ℕ) → (sets : List ℕ) → List ℕ
laid_out weights sets = flat_map (λ place. replicate (slice_index weights place) place) sets

-- The line that is chosen from. Where no considered set has a weight above 0, each has weight 1 (own).
abbrev pub stretches : (weights : List ℕ) → (healthy : List Bool) → List ℕ
stretches weights healthy =
    if list_any (λ place. nat_lt 0 (slice_index weights place)) (places healthy)
    then laid_out weights (places healthy)
    else places healthy

-- the length of the line
abbrev pub total : (weights : List ℕ) → (healthy : List Bool) → ℕ
total weights healthy = length (stretches weights healthy)

-- The chosen set: the one whose stretch holds `word mod total`.
abbrev pub chosen : (weights : List ℕ) → (healthy : List Bool) → (word : ℕ) → ℕ
chosen weights healthy word = slice_index (stretches weights healthy) (word % total weights healthy)
