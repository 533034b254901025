use Rattle.std.proofs.Common.{◌∙◌, subst, sym, Bool, []}
use Rattle.serve_turns.specs.LineRecord.TheVariants as line
use Rattle.line_server.proofs.Network.{as_told, came, not_bound, part, served}
use Rattle.line_server.specs.Leaving.{CameTo, TurnsInPart}
use Rattle.line_server.specs.Standing.{IsTurnsOutcome}
use Rattle.serve_turns.specs.Stores.{StandsFor}
use Rattle.serve_turns.specs.declared.serving.TurnsTaken.TheVariants as answer
use Rattle.serve_turns.specs.ServingOfSessionModel.{none}
use Rattle.serve_turns.specs.Steps.{LineSteps}
use Rattle.whole_writing.specs.declared.output.Output.TheVariants as output
use Rattle.line_server.proofs.binding.take_turns.Goals as goal

pub returns-then-not-bound-clause-leaves : goal.returns-then-not-bound-clause-leaves
returns-then-not-bound-clause-leaves g c = λ around old held before tables is stands coming words holds was.
    came c.send_outcome.result c.sent.result (sym c.sent.ensures)
    (LineSteps around (line.Serve c.args.turns) old)
    (TurnsInPart around c.args.turns old before (g.L.Link.coming c.args.link.now))
    (IsTurnsOutcome c.args.bound c.args.store.now (g.L.Link.coming c.args.link.now)
    (g.R.Rng.stream c.args.words.now)) held before (g.K.Sink.held c.send_outcome.new.out)
    (g.L.Link.sent c.args.link.now)
    (subst (λ (b : Bool). CameTo c.send_outcome.result (LineSteps around (line.Serve c.args.turns) old)
    (IsTurnsOutcome b c.args.store.now (g.L.Link.coming c.args.link.now)
    (g.R.Rng.stream c.args.words.now)) held before (g.K.Sink.held c.send_outcome.new.out)
    (g.L.Link.sent c.args.link.now)) is
    (not_bound around c.args.turns old held before (g.K.Sink.held c.send_outcome.new.out)
    c.args.store.now (g.L.Link.coming c.args.link.now) (g.R.Rng.stream c.args.words.now)
    (g.L.Link.sent c.args.link.now) c.send_outcome.result (is ∙ c.if-not-bound.true) stands coming
    words was (c.send_outcome.ensures.writes held holds)))

pub returns-in-Took-clause-leaves : goal.returns-in-Took-clause-leaves
returns-in-Took-clause-leaves g c = λ around old held before tables is stands coming words holds was.
    came c.send_outcome-in-Took.result c.sent-in-Took.result (sym c.sent-in-Took.ensures)
    (LineSteps around (line.Serve c.args.turns) old)
    (TurnsInPart around c.args.turns old before (g.L.Link.coming c.serve.new.link))
    (IsTurnsOutcome c.args.bound c.serve.new.store (g.L.Link.coming c.serve.new.link)
    (g.R.Rng.stream c.serve.new.words)) held before (g.K.Sink.held c.send_outcome-in-Took.new.out)
    (g.L.Link.sent c.serve.new.link)
    (subst (λ (b : Bool). CameTo c.send_outcome-in-Took.result
    (LineSteps around (line.Serve c.args.turns) old)
    (IsTurnsOutcome b c.serve.new.store (g.L.Link.coming c.serve.new.link)
    (g.R.Rng.stream c.serve.new.words)) held before (g.K.Sink.held c.send_outcome-in-Took.new.out)
    (g.L.Link.sent c.serve.new.link)) is
    (served around c.args.turns old held before (g.K.Sink.held c.send_outcome-in-Took.new.out)
    c.serve.new.store (g.L.Link.coming c.serve.new.link) (g.R.Rng.stream c.serve.new.words)
    (g.L.Link.sent c.serve.new.link) c.send_outcome-in-Took.result (is ∙ c.if-not-bound.false)
    c.in-Took.took
    (as_told (answer.Took c.in-Took.took) around c.args.tables.now c.args.turns old
    (g.R.Rng.stream c.args.words.now) before (λ after. StandsFor after c.serve.new.store)
    (record {
      words = g.R.Rng.stream c.serve.new.words;
      turns = none;
      coming = g.L.Link.coming c.serve.new.link;
      sent = g.L.Link.sent c.serve.new.link;
    })
    tables words (c.in-Took.ensures.leaves old.engine old.arrivals before stands coming was))
    (c.send_outcome-in-Took.ensures.writes held holds)))

pub returns-in-Failed-clause-leaves : goal.returns-in-Failed-clause-leaves
returns-in-Failed-clause-leaves g c = λ around old held before tables is stands coming words holds was. (
  holds,
  part around c.args.turns old held before (g.K.Sink.held c.args.out.now) c.serve.new.store
      (g.L.Link.coming c.serve.new.link) (g.R.Rng.stream c.serve.new.words)
      (g.L.Link.sent c.serve.new.link) output.Whole
      (as_told answer.Failed around c.args.tables.now c.args.turns old
      (g.R.Rng.stream c.args.words.now) before (λ after. StandsFor after c.serve.new.store)
      (record {
        words = g.R.Rng.stream c.serve.new.words;
        turns = none;
        coming = g.L.Link.coming c.serve.new.link;
        sent = g.L.Link.sent c.serve.new.link;
      })
      tables words (c.in-Failed.ensures.leaves old.engine old.arrivals before stands coming was)),
)

pub returns-then-not-bound-clause-reports : goal.returns-then-not-bound-clause-reports
returns-then-not-bound-clause-reports g c = λ engine stands. ([], stands)
