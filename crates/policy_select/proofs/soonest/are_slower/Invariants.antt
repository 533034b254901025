use Rattle.policy_select.specs.Soonest.{AreSlower}
use Rattle.policy_select.proofs.soonest.are_slower.Given as goal

abbrev pub invariant-loop-i : goal.invariant-loop-i
invariant-loop-i l = AreSlower l.slow l.healthy l.all l.place l.i
