use Rattle.list_sending.specs.Replies.{too_long_text}
use Rattle.session_server.proofs.Lines.{as_written}
use Rattle.session_server.proofs.server.Server.refuse_line.Goals as goal

pub returns-clause-writes : goal.returns-clause-writes
returns-clause-writes g c = λ held tells.
    as_written c.send_outcome.result c.sent.result c.sent.ensures held
    (g.K.Sink.held c.send_outcome.new.out) too_long_text
    (c.send_outcome.ensures.writes held tells)
