use Rattle.r53_cli.proofs.Running.{unasked}
use Rattle.r53_cli.proofs.sessions.run_lines.Goals as goal

pub returns : goal.returns
returns g c = record {
  runs = record {
    answer = c.run_session.result;
    status_is = c.of_ran.ensures;
    unasked = unasked g.S.Source.left g.S.Source.faults g.K.Sink.held g.K.Sink.faults g.L.Link.ports
        g.L.Link.coming g.L.Link.sent g.L.Link.faults g.R.Rng.stream c.run_session.result
        c.args.input.now c.run_session.new.input c.args.out.now c.run_session.new.out c.args.link.now c.run_session.new.link c.args.words.now
        c.run_session.new.words (g.T.Source.left c.args.tables.now) (g.T.Source.left c.run_session.new.tables)
        (g.T.Source.faults c.args.tables.now) (g.T.Source.faults c.run_session.new.tables)
        (g.D.Disk.faults c.args.a.now) (g.D.Disk.faults c.run_session.new.a) (g.D.Disk.faults c.args.b.now)
        (g.D.Disk.faults c.run_session.new.b) c.run_session.ensures.unasked;
    unopened = c.run_session.ensures.unopened;
    leaves = c.run_session.ensures.leaves;
    tables_say = c.run_session.ensures.tables_say;
    files_say = c.run_session.ensures.files_say;
    files_keep = c.run_session.ensures.files_keep;
    a_unwritten = c.run_session.ensures.a_unwritten;
    b_unwritten = c.run_session.ensures.b_unwritten;
    cause = c.run_session.ensures.cause;
  };
}
