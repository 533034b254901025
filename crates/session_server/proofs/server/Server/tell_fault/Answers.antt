use Rattle.line_bounds.specs.Outcomes.{text_of}
use Rattle.line_bounds.specs.OutcomeRecord.TheVariants as outcome
use Rattle.session_server.proofs.Lines.{as_written}
use Rattle.session_server.proofs.server.Server.tell_fault.Goals as goal

pub returns-clause-writes : goal.returns-clause-writes
returns-clause-writes g c = λ held tells.
    as_written c.send_outcome.result c.sent.result c.sent.ensures held
    (g.K.Sink.held c.send_outcome.new.out) (text_of (outcome.NotRead c.args.fault))
    (c.send_outcome.ensures.writes held tells)
