use Rattle.std.proofs.Common.{length}
use Rattle.zone_allowed.proofs.apart.+differ_each.Given as goal

abbrev pub decreases-differ_each : goal.decreases-differ_each
decreases-differ_each l = length l.sets.now
