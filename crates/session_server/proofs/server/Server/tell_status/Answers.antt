use Rattle.std.proofs.Common.{◌∙◌, ap, subst, sym, inl, refl}
use Rattle.std.specs.Prelude.{⊤}
use Rattle.line_server.specs.Standing.{Server, StandsFor}
use Rattle.session_server.proofs.Arms.{status}
use Rattle.line_server.specs.Stores.{StandsFor as StoreStandsFor}
use Rattle.session_server.proofs.server.Server.tell_status.Goals as goal

pub returns-clause-leaves : goal.returns-clause-leaves
returns-clause-leaves g c = λ around old held before network random told same stands tells unsent.
    let its = subst (λ (s : Server). StandsFor old s network random) (sym c.self.view_is) stands in
    status around old
    (record { store = c.self.inside.store; tables = c.self.inside.tables; bound = c.self.inside.bound })
    network random its c.self.inside.store held before (g.K.Sink.held c.status.new.out) told unsent ⊥ ⊤
    (λ after. ⊥) c.args.id c.status.result
    (c.status.ensures.leaves old.engine held its.store tells)

pub returns-clause-made : goal.returns-clause-made
returns-clause-made g c = λ engine stands. (
  engine,
  inl refl,
  subst (λ (s : Server). StoreStandsFor engine s.store) (sym c.self.view_is) stands,
)
