use Rattle.std.proofs.Common.{◌-◌, ◌^◌}
use Rattle.check_commands.specs.Uses.{AreUsesTo}
use Rattle.check_commands.proofs.uses.look_at_zones.Given as goal

abbrev pub invariant-loop-zone : goal.invariant-loop-zone
invariant-loop-zone l = AreUsesTo l.last l.named l.zones.zones

abbrev pub decreases-loop-zone : goal.decreases-loop-zone
decreases-loop-zone l = 2 ^ 32 - l.last
