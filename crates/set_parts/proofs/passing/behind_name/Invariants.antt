use Rattle.std.proofs.Common.{◌≡◌, ℕ, List, ◌++◌, ◌≤◌, length}
use Rattle.std.specs.List.{AllByRecursion}
use Rattle.set_reading.specs.Labels.{wire, IsRawLabel}
use Rattle.set_reading.specs.Names.{IsName}
use Rattle.set_parts.proofs.passing.behind_name.Given as goal

abbrev pub invariant-loop-size : goal.invariant-loop-size
invariant-loop-size l = record {
  fits : length l.left ≤ length l.fn.octets;
  behind : (labels : List (List ℕ)) (rest : List ℕ) → IsName labels → l.fn.octets ≡ wire labels ++ rest
      → (others : List (List ℕ)) × AllByRecursion IsRawLabel others × (l.left ≡ wire others ++ rest);
}

abbrev pub decreases-loop-size : goal.decreases-loop-size
decreases-loop-size l = length l.left
