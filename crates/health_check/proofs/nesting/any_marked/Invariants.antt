use Rattle.std.proofs.Common.{◌≡◌, drop}
use Rattle.std.specs.List.{list_any}
use Rattle.health_check.specs.Marks.{marked}
use Rattle.health_check.proofs.nesting.any_marked.Given as goal

abbrev pub invariant-loop-child : goal.invariant-loop-child
invariant-loop-child l =
    list_any (marked l.list l.marks) (drop l.child-index l.children)
    ≡ list_any (marked l.list l.marks) l.children
