use Rattle.zone_soundness.proofs.Rising.{Neighbours}
use Rattle.zone_soundness.proofs.placing.are_rising.Given as goal

abbrev pub invariant-loop-i : goal.invariant-loop-i
invariant-loop-i l = Neighbours l.sets l.i
