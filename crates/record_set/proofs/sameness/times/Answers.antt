use Rattle.std.proofs.Common.{arith}
use Rattle.record_set.proofs.Times.{times_step}
use Rattle.record_set.proofs.sameness.times.Goals as goal

pub loop-other-preserved : goal.loop-other-preserved
loop-other-preserved c =
    let i = c.loop-other.invariant in
    let e = c.once-count.ensures in
    let s = times_step c.args.value.now c.other-item.result c.args.values.now
    c.loop-other.other-index c.loop-other-test.true c.other-item.is in
    record { few = omega (arith, i.few, e.most); left = omega (arith, i.left, e.exact, s) }
