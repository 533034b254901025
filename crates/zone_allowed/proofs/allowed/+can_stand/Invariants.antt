use Rattle.std.proofs.Common.{length}
use Rattle.zone_allowed.proofs.allowed.+can_stand.Given as goal

abbrev pub decreases-can_stand : goal.decreases-can_stand
decreases-can_stand l = length l.sets.now
