use Rattle.std.proofs.Common.{map}
use Rattle.config_zones.specs.Zones.{placed_in}
use Rattle.check_commands.specs.Uses.{slot_in}
use Rattle.check_commands.proofs.Followed.{LooksTo}
use Rattle.check_commands.proofs.uses.look_at_zone.Given as goal

abbrev pub invariant-loop-i : goal.invariant-loop-i
invariant-loop-i l =
    LooksTo l.zones.zones l.zone (map slot_in (placed_in l.zones.zones l.zone)) l.i l.fn.named l.named
