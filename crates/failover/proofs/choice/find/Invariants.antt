use Rattle.std.proofs.Common.{◌≡◌, slice_get}
use Rattle.failover.specs.Choice.{sets_of}
use Rattle.considered_sets.specs.Healthy.{asked}
use Rattle.failover.proofs.Walk.{rest}
use Rattle.failover.proofs.choice.find.Given as goal

abbrev pub invariant-loop-i : goal.invariant-loop-i
invariant-loop-i l =
    slice_get (rest l.role l.all l.roles l.healthy l.i) 0
    ≡ slice_get (asked l.all l.healthy (sets_of l.role l.roles)) 0
