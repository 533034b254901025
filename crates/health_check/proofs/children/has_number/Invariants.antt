use Rattle.std.proofs.Common.{◌≡◌, drop}
use Rattle.std.specs.Prelude.{nat_eq}
use Rattle.std.specs.List.{list_any}
use Rattle.health_check.proofs.children.has_number.Given as goal

abbrev pub invariant-loop-child : goal.invariant-loop-child
invariant-loop-child l =
    list_any (nat_eq l.id) (drop l.child-index l.children)
    ≡ list_any (nat_eq l.id) l.children
