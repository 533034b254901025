use Rattle.std.proofs.Common.{◌≡◌, ◌++◌, drop}
use Rattle.cidr_commands.specs.Commands.{without}
use Rattle.cidr_commands.proofs.steps.without.Given as goal

abbrev pub invariant-loop-held : goal.invariant-loop-held
invariant-loop-held l =
    l.v.items ++ without l.id (drop l.held-index l.list) ≡ without l.id l.list
