use Rattle.std.proofs.Common.{◌-◌, ◌^◌}
use Rattle.check_commands.proofs.Walked.{IsAsInZones}
use Rattle.check_commands.proofs.naming.is_named_in_any.Given as goal

abbrev pub invariant-loop-zone : goal.invariant-loop-zone
invariant-loop-zone l = IsAsInZones l.id l.zones.zones l.last

abbrev pub decreases-loop-zone : goal.decreases-loop-zone
decreases-loop-zone l = 2 ^ 32 - l.last
