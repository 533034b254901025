use Rattle.std.proofs.Common.{length}
use Rattle.set_search.proofs.Below.{AreAbove}
use Rattle.set_search.proofs.names.closest_in.Given as goal

abbrev pub invariant-loop-parent : goal.invariant-loop-parent
invariant-loop-parent g l = AreAbove (g.S.SetList.sets l.sets) l.name l.closest

abbrev pub decreases-loop-parent : goal.decreases-loop-parent
decreases-loop-parent g l = length l.closest
