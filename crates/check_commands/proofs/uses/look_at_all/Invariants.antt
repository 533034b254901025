use Rattle.std.proofs.Common.{map}
use Rattle.check_commands.specs.Uses.{slot_of}
use Rattle.check_commands.proofs.Followed.{LooksTo}
use Rattle.check_commands.proofs.uses.look_at_all.Given as goal

abbrev pub invariant-loop-i : goal.invariant-loop-i
invariant-loop-i l =
    LooksTo l.zones.zones l.zone (map slot_of l.sets) l.i l.fn.named l.named
