use Rattle.std.proofs.Common.{◌≡◌, slice_get}
use Rattle.cidr_routing.specs.Choice.{sets_of}
use Rattle.considered_sets.specs.Healthy.{asked}
use Rattle.cidr_routing.proofs.Walk.{rest}
use Rattle.cidr_routing.proofs.choice.find.Given as goal

abbrev pub invariant-loop-i : goal.invariant-loop-i
invariant-loop-i l =
    slice_get (rest l.location l.all l.locations l.healthy l.i) 0
    ≡ slice_get (asked l.all l.healthy (sets_of l.location l.locations)) 0
