-- The healthy ones among some sets, for the policies that ask sets in turn.
use Rattle.std.specs.Prelude.{ℕ, Bool, false, List, ◌||◌}
use Rattle.std.specs.List.{filter}
use Rattle.std.proofs.Math.ListN.{get_or}

-- of some sets the healthy ones
abbrev pub healthy_of : (healthy : List Bool) → List ℕ → List ℕ
healthy_of healthy sets = filter (λ set. get_or healthy set false) sets

-- of some sets the healthy ones, or all
abbrev pub asked : (all : Bool) → (healthy : List Bool) → List ℕ → List ℕ
asked all healthy sets = filter (λ set. all || get_or healthy set false) sets
