use Rattle.drill_run.proofs.Arms.{observed}
use Rattle.drill_run.proofs.taking.take_report.Goals as goal

pub returns-clause-does : goal.returns-clause-does
returns-clause-does c = λ tables old at.
    let its = c.take_once-came.ensures.reports old.engine at.stands in
    observed tables old c.args.store.now c.args.tally.now at c.args.seen c.take_once-came.result
    its.0 c.take_once-came.new.store c.count_report.new.tally its.1 its.2
    c.count_report.ensures.counted
