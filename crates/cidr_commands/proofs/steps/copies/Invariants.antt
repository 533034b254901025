use Rattle.std.proofs.Common.{◌≡◌, take}
use Rattle.cidr_commands.proofs.steps.copies.Given as goal

abbrev pub invariant-loop-held : goal.invariant-loop-held
invariant-loop-held l = l.v.items ≡ take l.held-index l.list
