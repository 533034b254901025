-- The sets of a location that are left from one on.
use Rattle.std.proofs.Common.{ℕ, Bool, List, map, drop}
use Rattle.std.specs.Str.{bytes_eq}
use Rattle.considered_sets.specs.Considered.{places_from}
use Rattle.considered_sets.specs.Healthy.{asked}

abbrev pub rest : List ℕ → Bool → List (List ℕ) → List Bool → ℕ → List ℕ
rest location all locations healthy i =
    asked all healthy (places_from i (map (bytes_eq location) (drop i locations)))
