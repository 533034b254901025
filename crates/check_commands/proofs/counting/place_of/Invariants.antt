use Rattle.std.proofs.Common.{◌≡◌, take}
use Rattle.check_commands.specs.Counts.{counted}
use Rattle.check_commands.proofs.counting.place_of.Given as goal

abbrev pub invariant-loop-i : goal.invariant-loop-i
invariant-loop-i l = counted l.check (take l.i l.uses) ≡ 0
