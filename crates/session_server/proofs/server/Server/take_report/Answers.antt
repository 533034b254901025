use Rattle.std.proofs.Common.{◌∙◌, ap, subst, sym}
use Rattle.std.specs.Prelude.{⊤}
use Rattle.line_server.specs.Standing.{Server, StandsFor}
use Rattle.session_server.proofs.Arms.{report}
use Rattle.line_server.specs.Stores.{StandsFor as StoreStandsFor}
use Rattle.session_server.proofs.Keeping.{observed}
use Rattle.session_server.proofs.server.Server.take_report.Goals as goal

pub returns-clause-leaves : goal.returns-clause-leaves
returns-clause-leaves g c = λ around old held before network random told same stands tells unsent.
    let its = subst (λ (s : Server). StandsFor old s network random) (sym c.self.view_is) stands in
    report around old
    (record { store = c.self.inside.store; tables = c.self.inside.tables; bound = c.self.inside.bound })
    network random its c.observe.new.store held before (g.K.Sink.held c.observe.new.out) told unsent ⊥ ⊤
    (λ after. ⊥) c.args.seen c.observe.result
    (c.observe.ensures.leaves old.engine held its.store tells)

pub returns-clause-made : goal.returns-clause-made
returns-clause-made g c = λ engine stands.
    let its = c.observe.ensures.reports engine
    (subst (λ (s : Server). StoreStandsFor engine s.store) (sym c.self.view_is) stands) in
    (its.0, observed c.args.seen engine its.0 its.1 its.2, its.3)
