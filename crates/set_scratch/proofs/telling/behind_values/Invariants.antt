use Rattle.std.proofs.Common.{◌≡◌, ◌++◌, ℕ, List, drop, length}
use Rattle.std.specs.List.{flat_map}
use Rattle.set_parts.specs.Datum.{Datum}
use Rattle.set_parts.specs.Octets.{value_octets}
use Rattle.set_scratch.proofs.telling.behind_values.Given as goal

abbrev pub invariant-loop : goal.invariant-loop
invariant-loop l =
    (values : List Datum) (rest : List ℕ) → length values ≡ l.fn.count
    → l.fn.octets ≡ flat_map value_octets values ++ rest
    → l.left ≡ flat_map value_octets (drop l.counter values) ++ rest
