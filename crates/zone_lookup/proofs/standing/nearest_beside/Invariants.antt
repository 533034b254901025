use Rattle.std.proofs.Common.{length}
use Rattle.zone_lookup.proofs.Beside.{Walks}
use Rattle.zone_lookup.proofs.standing.nearest_beside.Given as goal

abbrev pub invariant-loop-nearest : goal.invariant-loop-nearest
invariant-loop-nearest l = Walks l.name l.before l.behind l.nearest

abbrev pub decreases-loop-nearest : goal.decreases-loop-nearest
decreases-loop-nearest l = length l.nearest
