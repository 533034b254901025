use Rattle.std.proofs.Common.{◌-◌, ◌^◌}
use Rattle.config_opening.proofs.Replayed.{Going}
use Rattle.config_opening.proofs.replaying.replay.Given as goal

abbrev pub invariant-loop-fault : goal.invariant-loop-fault
invariant-loop-fault g l = Going g.D.Disk.reading g.D.Disk.images g.D.Disk.moment
    g.D.Disk.images_since g.D.Disk.faults l.fn.config l.fn.journal l.fn.a l.fn.b l.config l.journal
    l.a l.b

abbrev pub decreases-loop-fault : goal.decreases-loop-fault
decreases-loop-fault g l = 2 ^ 64 - l.journal.at
