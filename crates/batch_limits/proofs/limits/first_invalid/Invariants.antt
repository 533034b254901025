use Rattle.batch_model.specs.Batches.{AreValidBefore}
use Rattle.batch_limits.proofs.limits.first_invalid.Given as goal

abbrev pub invariant-loop-i : goal.invariant-loop-i
invariant-loop-i l = AreValidBefore l.changes l.apex l.i
