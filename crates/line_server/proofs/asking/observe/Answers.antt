use Rattle.std.proofs.Common.{refl, subst, sym}
use Rattle.line_server.proofs.Asked.{replied}
use Rattle.line_server.specs.Replying.{Observed}
use Rattle.serve_turns.specs.Stores.{StandsFor}
use Rattle.reply_sending.specs.Outcomes.{text_of}
use Rattle.reply_sending.specs.OutcomeRecord.{Outcome}
use Rattle.serve_turns.specs.Replies.{report_outcome}
use Rattle.whole_writing.specs.Output.{OutputOf}
use Rattle.line_server.proofs.asking.observe.Goals as goal

pub returns-clause-leaves : goal.returns-clause-leaves
returns-clause-leaves g c = λ engine held stands tells.
    let its = c.take_once-came.ensures.reports engine stands in
    replied (Observed c.args.seen) engine (λ after. StandsFor after c.take_once-came.new.store) held
    (g.K.Sink.held c.send_outcome.new.out) c.send_outcome.result c.sent.result
    (sym c.sent.ensures) its.0
    (text_of (report_outcome c.args.seen.id c.take_once-came.result))
    (c.take_once-came.result, its.1, refl) its.2
    (subst (λ (o : Outcome). OutputOf held (g.K.Sink.held c.send_outcome.new.out)
    c.send_outcome.result (text_of o))
    c.report_of.ensures
    (c.send_outcome.ensures.writes held tells))

pub returns-clause-reports : goal.returns-clause-reports
returns-clause-reports g c = λ engine stands.
    let its = c.take_once-came.ensures.reports engine stands in (
      its.0,
      text_of (report_outcome c.args.seen.id c.take_once-came.result),
      (c.take_once-came.result, its.1, refl),
      its.2,
    )
