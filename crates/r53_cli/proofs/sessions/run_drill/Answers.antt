use Rattle.r53_cli.proofs.Running.{summary_unwritten}
use Rattle.r53_cli.proofs.sessions.run_drill.Goals as goal

pub returns-clause-drills : goal.returns-clause-drills
returns-clause-drills g c = record {
  answer = c.drill.result;
  status_is = c.of_drilled.ensures.told;
  leaves = c.drill.ensures.leaves;
  unwritten = summary_unwritten g.K.Sink.held c.drill.result c.args.out.now c.drill.new.out
      c.drill.ensures.unwritten;
  cause = c.drill.ensures.cause;
}
