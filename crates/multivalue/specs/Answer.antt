-- The answer that gives a list of at most eight places.
use Rattle.std.specs.Prelude.{ℕ, ◌-◌, List, ◌++◌, length, replicate}
use Rattle.multivalue.specs.declared.choice.Picked.{Picked}

-- the places, with 0 behind them, and how many they are
abbrev pub picked : List ℕ → Picked
picked sets = record { places = sets ++ replicate (8 - length sets) 0; count = length sets }
