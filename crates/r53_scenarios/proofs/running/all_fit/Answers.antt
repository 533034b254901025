use Rattle.std.proofs.Common.{subst, take_all}
use Rattle.std.specs.List.{All}
use Rattle.std.proofs.lemmas.List.Elements.{All-more}
use Rattle.r53_io.specs.Script.{FitsDatagram}
use Rattle.r53_scenarios.proofs.running.all_fit.Goals as goal

pub loop-arrival-preserved : goal.loop-arrival-preserved
loop-arrival-preserved c =
    All-more FitsDatagram c.args.arrivals.now c.loop-arrival.arrival-index c.arrival-item.result
    c.loop-arrival-test.true c.loop-arrival.invariant
    (subst FitsDatagram c.arrival-item.is c.if-not-fits.ensures)

pub returns : goal.returns
returns c =
    subst (All FitsDatagram)
    (take_all c.loop-arrival.arrival-index c.args.arrivals.now c.loop-arrival-test.false)
    c.loop-arrival.invariant
