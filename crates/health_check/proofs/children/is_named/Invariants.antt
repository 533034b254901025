use Rattle.std.proofs.Common.{◌≡◌, drop}
use Rattle.check_model.specs.Commands.{is_named}
use Rattle.health_check.proofs.children.is_named.Given as goal

abbrev pub invariant-loop-held : goal.invariant-loop-held
invariant-loop-held l =
    is_named l.id (drop l.held-index l.list)
    ≡ is_named l.id l.list
