use Rattle.std.proofs.Common.{◌≡◌, drop}
use Rattle.std.specs.List.{list_any}
use Rattle.health_check.specs.Marks.{is_calculated_in}
use Rattle.health_check.proofs.nesting.has_calculated.Given as goal

abbrev pub invariant-loop-child : goal.invariant-loop-child
invariant-loop-child l =
    list_any (is_calculated_in l.list) (drop l.child-index l.children)
    ≡ list_any (is_calculated_in l.list) l.children
