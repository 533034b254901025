use Rattle.std.proofs.Common.{length}
use Rattle.zone_allowed.proofs.there.+have_all.Given as goal

abbrev pub decreases-have_all : goal.decreases-have_all
decreases-have_all l = length l.keys.now
