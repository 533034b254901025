use Rattle.std.proofs.Common.{◌-◌, ◌^◌}
use Rattle.snapshot_writing.proofs.Gathered.{AreAppendedTo}
use Rattle.snapshot_writing.proofs.zones.append_each_zone.Given as goal

abbrev pub invariant-loop-zone : goal.invariant-loop-zone
invariant-loop-zone l = AreAppendedTo l.fn.into.items l.zones.zones l.last l.into.items

abbrev pub decreases-loop-zone : goal.decreases-loop-zone
decreases-loop-zone l = 2 ^ 32 - l.last
