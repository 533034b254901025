use Rattle.std.proofs.Common.{◌∙◌, ap, subst, sym, inl, refl}
use Rattle.std.specs.Prelude.{⊤}
use Rattle.line_server.specs.Standing.{Server, StandsFor}
use Rattle.session_server.proofs.Arms.{query}
use Rattle.line_server.specs.Stores.{State as Store, StandsFor as StoreStandsFor}
use Rattle.session_server.proofs.server.Server.tell_answer.Goals as goal

pub returns-clause-leaves : goal.returns-clause-leaves
returns-clause-leaves g c = λ around old held before network random told same stands tells unsent.
    let its = subst (λ (s : Server). StandsFor old s network random) (sym c.self.view_is) stands in
    query around old
    (record { store = c.self.inside.store; tables = c.self.inside.tables; bound = c.self.inside.bound })
    network random its c.query.new.store held before (g.K.Sink.held c.query.new.out) told unsent ⊥ ⊤
    (λ after. ⊥) c.args.asked.now c.query.result
    (same ∙ ap (λ (s : Server). s.tables) (sym c.self.view_is))
    (c.query.ensures.leaves old.engine held its.store tells)

pub returns-clause-made : goal.returns-clause-made
returns-clause-made g c = λ engine stands. (
  engine,
  inl refl,
  subst (λ (s : Store). StoreStandsFor engine s) (sym c.query.ensures.same)
      (subst (λ (s : Server). StoreStandsFor engine s.store) (sym c.self.view_is) stands),
)
