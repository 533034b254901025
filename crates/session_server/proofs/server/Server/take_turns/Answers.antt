use Rattle.std.proofs.Common.{◌≡◌, ◌∙◌, refl, subst, sym, ap, Some, Bool, true, inl, ◌++◌}
use Rattle.std.specs.Prelude.{⊤}
use Rattle.line_bounds.specs.LineRecord.TheVariants as line
use Rattle.line_server.specs.Standing.{Server, StandsFor}
use Rattle.line_server.specs.Leaving.{TurnsInPart}
use Rattle.line_server.specs.Standing.{IsTurnsOutcome}
use Rattle.list_sending.specs.Steps.{LineSteps, State, Step}
use Rattle.session_server.proofs.Lines.{of_network}
use Rattle.session_server.specs.Taking.{PartOf}
use Rattle.line_server.specs.Stores.{StandsFor as StoreStandsFor}
use Rattle.session_server.proofs.server.Server.take_turns.Goals as goal

pub returns-clause-leaves : goal.returns-clause-leaves
returns-clause-leaves g c = λ around old held before same stands tells was.
    let its = subst (λ (s : Server). StandsFor old s (g.L.Link.coming c.args.link.now)
    (g.R.Rng.stream c.args.words.now)) (sym c.self.view_is) stands in
    of_network (LineSteps around (line.Serve c.args.turns) old)
    (PartOf around (line.Serve c.args.turns) old before (g.L.Link.coming c.take_turns.new.link)
    (g.L.Link.sent c.take_turns.new.link)) ⊤ (λ after. ⊥) old
    (IsTurnsOutcome c.self.inside.bound c.take_turns.new.store (g.L.Link.coming c.take_turns.new.link)
    (g.R.Rng.stream c.take_turns.new.words))
    (λ new. StandsFor new (record {
      store = c.take_turns.new.store;
      tables = c.self.inside.tables;
      bound = c.self.inside.bound;
    }) (g.L.Link.coming c.take_turns.new.link) (g.R.Rng.stream c.take_turns.new.words))
    (TurnsInPart around c.args.turns old before (g.L.Link.coming c.take_turns.new.link)) held before
    (g.K.Sink.held c.take_turns.new.out) (g.L.Link.sent c.take_turns.new.link) c.take_turns.result
    (λ step steps s. record {
      store = s.stands;
      bound = s.still;
      coming = s.coming;
      words = s.words;
    }) (λ is part. (its.bound ∙ c.take_turns.ensures.asked is, part))
    (c.take_turns.ensures.leaves around old held before
    (same ∙ ap (λ (s : Server). s.tables) (sym c.self.view_is)) its.bound its.store its.coming
    its.words tells was)

pub returns-clause-link_asked : goal.returns-clause-link_asked
returns-clause-link_asked g c = λ is.
    subst (λ (s : Server). s.bound ≡ true) c.self.view_is (c.take_turns.ensures.asked is)

pub returns-clause-made : goal.returns-clause-made
returns-clause-made g c = λ engine stands.
    let its = c.take_turns.ensures.reports engine
    (subst (λ (s : Server). StoreStandsFor engine s.store) (sym c.self.view_is) stands) in
    (record engine { reports = its.0 ++ engine.reports }, inl refl, its.1)
