use Rattle.std.proofs.Common.{◌≡◌, drop}
use Rattle.std.specs.Prelude.{◌↔◌}
use Rattle.std.specs.List.{AllByRecursion}
use Rattle.set_octets.proofs.spelling.each_of_type.Given as goal

abbrev pub invariant-loop-value : goal.invariant-loop-value
invariant-loop-value l =
    AllByRecursion (λ value. value.rtype ≡ l.rtype) l.values
    ↔ AllByRecursion (λ value. value.rtype ≡ l.rtype) (drop l.value-index l.values)
