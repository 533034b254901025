use Rattle.std.proofs.Common.{◌-◌, ◌^◌}
use Rattle.collection_commands.proofs.Named.{IsGatheredTo}
use Rattle.collection_commands.proofs.naming.used_by.Given as goal

abbrev pub invariant-loop-zone : goal.invariant-loop-zone
invariant-loop-zone l = IsGatheredTo l.zones.zones l.last l.used.items

abbrev pub decreases-loop-zone : goal.decreases-loop-zone
decreases-loop-zone l = 2 ^ 32 - l.last
