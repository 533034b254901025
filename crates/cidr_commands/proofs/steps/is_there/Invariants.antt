use Rattle.std.proofs.Common.{◌≡◌, drop}
use Rattle.cidr_commands.specs.Commands.{is_there}
use Rattle.cidr_commands.proofs.steps.is_there.Given as goal

abbrev pub invariant-loop-held : goal.invariant-loop-held
invariant-loop-held l = is_there l.name (drop l.held-index l.list) ≡ is_there l.name l.list
