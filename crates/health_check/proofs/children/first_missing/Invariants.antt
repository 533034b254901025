use Rattle.std.proofs.Common.{◌≡◌, drop}
use Rattle.check_model.specs.Commands.{first_missing}
use Rattle.health_check.proofs.children.first_missing.Given as goal

abbrev pub invariant-loop-child : goal.invariant-loop-child
invariant-loop-child l =
    first_missing l.list (drop l.child-index l.children)
    ≡ first_missing l.list l.children
