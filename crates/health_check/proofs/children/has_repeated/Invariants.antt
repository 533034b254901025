use Rattle.std.proofs.Common.{◌≡◌, drop}
use Rattle.check_model.specs.Commands.{has_repeated}
use Rattle.health_check.proofs.children.has_repeated.Given as goal

abbrev pub invariant-loop-i : goal.invariant-loop-i
invariant-loop-i l =
    has_repeated (drop l.i l.children)
    ≡ has_repeated l.children
