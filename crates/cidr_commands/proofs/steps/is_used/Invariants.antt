use Rattle.std.proofs.Common.{◌≡◌, drop}
use Rattle.cidr_commands.specs.Commands.{is_used}
use Rattle.cidr_commands.proofs.steps.is_used.Given as goal

abbrev pub invariant-loop-named : goal.invariant-loop-named
invariant-loop-named l = is_used l.id (drop l.named-index l.used) ≡ is_used l.id l.used
