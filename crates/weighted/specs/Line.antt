-- The line as it is walked: one set after another, none of which is kept.
use Rattle.std.specs.Prelude.{ℕ, ◌+◌, ◌%◌, Bool, true, false, List, [], ◌∷◌, ◌++◌, ◌||◌, length, replicate}
use Rattle.std.specs.Prelude.{slice_index, if◌then◌else◌}
use Rattle.weighted.specs.declared.choice.StretchRule.{StretchRule}

-- stretches as long as the weights, of the healthy sets or of all
abbrev pub by_weight : (all : Bool) → StretchRule
by_weight all = record { all = all; even = false }

-- stretches of length 1
abbrev pub one_each : (all : Bool) → StretchRule
one_each all = record { all = all; even = true }

-- how long the stretch of a set is
abbrev pub stretch_of : StretchRule → (weight : ℕ) → (healthy : Bool) → ℕ
stretch_of rule weight healthy = if healthy || rule.all then (if rule.even then 1 else weight) else 0

-- the stretches of the sets from a place on
abbrev pub rest_of_line : StretchRule → List ℕ → (at : ℕ) → List Bool → List ℕ
rest_of_line rule weights at [] = []
rest_of_line rule weights at (h ∷ rest) =
    replicate (stretch_of rule (slice_index weights at) h) at ++ rest_of_line rule weights (at + 1) rest

-- the set at the point of a line that a word names
abbrev pub at_word : List ℕ → (word : ℕ) → ℕ
at_word xs word = slice_index xs (word % length xs)
