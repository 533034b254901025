use Rattle.std.proofs.Common.{length}
use Rattle.zone_list.specs.Apexes.{AreAllAbove}
use Rattle.zone_list.proofs.apexes.climb.Given as goal

abbrev pub invariant-loop-parent : goal.invariant-loop-parent
invariant-loop-parent l = AreAllAbove l.list l.name l.rest

abbrev pub decreases-loop-parent : goal.decreases-loop-parent
decreases-loop-parent l = length l.rest
