use Rattle.std.proofs.Common.{◌∙◌, ap, refl, subst, sym, Bool, Option, ℕ}
use Rattle.health_model.specs.Statuses.{status_told}
use Rattle.line_server.proofs.Asked.{replied}
use Rattle.line_server.specs.Replying.{StatusTold}
use Rattle.serve_turns.specs.Stores.{StandsFor}
use Rattle.reply_sending.specs.Outcomes.{text_of}
use Rattle.reply_sending.specs.OutcomeRecord.{Outcome}
use Rattle.serve_turns.specs.Replies.{status_outcome}
use Rattle.whole_writing.specs.Output.{OutputOf}
use Rattle.line_server.proofs.asking.status.Goals as goal

pub returns-clause-leaves : goal.returns-clause-leaves
returns-clause-leaves g c = λ engine held stands tells.
    replied (StatusTold c.args.id) engine (λ after. StandsFor after c.args.store.now) held
    (g.K.Sink.held c.send_outcome.new.out) c.send_outcome.result c.sent.result
    (sym c.sent.ensures) engine
    (text_of (status_outcome c.args.id
    (status_told engine.config.checks.list engine.reports c.args.id)))
    (refl, refl) stands
    (subst (λ (o : Outcome). OutputOf held (g.K.Sink.held c.send_outcome.new.out)
    c.send_outcome.result (text_of o))
    (c.status_of-told.ensures ∙ ap (λ (s : Option (Bool × ℕ)). status_outcome c.args.id s)
    (c.check_status.ensures engine stands))
    (c.send_outcome.ensures.writes held tells))
