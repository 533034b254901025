use Rattle.std.proofs.Common.{drop}
use Rattle.std.specs.Prelude.{◌↔◌}
use Rattle.std.specs.List.{AllByRecursion}
use Rattle.set_fields.specs.Values.{IsInLayout}
use Rattle.set_reading.proofs.sets.values_in_layout.Given as goal

abbrev pub invariant-loop-value : goal.invariant-loop-value
invariant-loop-value l = AllByRecursion IsInLayout l.values
    ↔ AllByRecursion IsInLayout (drop l.value-index l.values)
