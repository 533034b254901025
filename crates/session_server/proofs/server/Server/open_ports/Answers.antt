use Rattle.std.proofs.Common.{◌≡◌, ◌∙◌, refl, subst, sym, ap, Some, Bool, false, inl}
use Rattle.std.specs.Prelude.{⊤}
use Rattle.line_bounds.specs.LineRecord.TheVariants as line
use Rattle.line_server.specs.Standing.{Server, StandsFor}
use Rattle.line_server.specs.Standing.{IsBound}
use Rattle.list_sending.specs.Steps.{LineSteps, State, Step}
use Rattle.session_server.proofs.Lines.{of_network}
use Rattle.session_server.proofs.Arms.{bound_now}
use Rattle.session_server.specs.Taking.{PartOf}
use Rattle.line_server.specs.Stores.{StandsFor as StoreStandsFor}
use Rattle.session_server.proofs.server.Server.open_ports.Goals as goal

pub returns-clause-leaves : goal.returns-clause-leaves
returns-clause-leaves g c = λ around old held before random stands ports tells was.
    let its = subst (λ (s : Server). StandsFor old s (g.L.Link.coming c.args.link.now) random)
    (sym c.self.view_is) stands in
    of_network (LineSteps around (line.Bind c.args.ports) old)
    (PartOf around (line.Bind c.args.ports) old before (g.L.Link.coming c.bind_ports.new.link)
    (g.L.Link.sent c.bind_ports.new.link)) ⊤ (λ after. ⊥) old (IsBound old c.bind_ports.new.bound)
    (λ new. StandsFor new (record {
      store = c.self.inside.store;
      tables = c.self.inside.tables;
      bound = c.bind_ports.new.bound;
    }) (g.L.Link.coming c.bind_ports.new.link) random)
    (λ sent. sent ≡ Some before) held before (g.K.Sink.held c.bind_ports.new.out)
    (g.L.Link.sent c.bind_ports.new.link) c.bind_ports.result
    (λ step steps is. bound_now old (record {
      store = c.self.inside.store;
      tables = c.self.inside.tables;
      bound = c.self.inside.bound;
    }) (g.L.Link.coming c.args.link.now) random its c.bind_ports.new.bound
    (g.L.Link.coming c.bind_ports.new.link) c.bind_ports.ensures.coming step.new is)
    (λ is part. (its.bound ∙ c.bind_ports.ensures.asked is, part, c.bind_ports.ensures.coming ∙ its.coming))
    (c.bind_ports.ensures.leaves around old held before its.bound ports tells was)

pub returns-clause-link_asked : goal.returns-clause-link_asked
returns-clause-link_asked g c = λ is.
    subst (λ (s : Server). s.bound ≡ false) c.self.view_is (c.bind_ports.ensures.asked is)

pub returns-clause-made : goal.returns-clause-made
returns-clause-made g c = λ engine stands. (
  engine,
  inl refl,
  subst (λ (s : Server). StoreStandsFor engine s.store) (sym c.self.view_is) stands,
)
