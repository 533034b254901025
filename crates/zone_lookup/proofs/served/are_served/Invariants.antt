use Rattle.std.proofs.Common.{◌-◌, ◌^◌}
use Rattle.zone_lookup.proofs.Serving.{ServedTo}
use Rattle.zone_lookup.proofs.served.are_served.Given as goal

abbrev pub invariant-loop-zone : goal.invariant-loop-zone
invariant-loop-zone l = ServedTo l.zones.zones l.last

abbrev pub decreases-loop-zone : goal.decreases-loop-zone
decreases-loop-zone l = 2 ^ 32 - l.last
