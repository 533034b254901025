use Rattle.std.proofs.Common.{◌∙◌, ap, subst, sym, inl, refl}
use Rattle.std.specs.Prelude.{⊤}
use Rattle.line_server.specs.Standing.{Server, StandsFor}
use Rattle.session_server.proofs.Arms.{list}
use Rattle.line_bounds.specs.Configs.{Config}
use Rattle.list_sending.specs.Laws.{hosted_in}
use Rattle.list_sending.specs.Tables.{Table}
use Rattle.line_server.specs.Stores.{StandsFor as StoreStandsFor}
use Rattle.session_server.proofs.server.Server.tell_list.Goals as goal

pub returns-clause-leaves : goal.returns-clause-leaves
returns-clause-leaves g c = λ around old held before network random told same stands tells unsent.
    let its = subst (λ (s : Server). StandsFor old s network random) (sym c.self.view_is) stands in
    list around old
    (record { store = c.self.inside.store; tables = c.self.inside.tables; bound = c.self.inside.bound })
    network random its c.self.inside.store held before (g.K.Sink.held c.send_list.new.out) told unsent ⊥ ⊤
    (λ after. ⊥) c.args.list.now (hosted_in c.zones.result.now.zones)
    (ap (λ (t : Table). hosted_in t.zones) c.zones.ensures
    ∙ sym (ap (λ (k : Config). k.zones) its.store.config))
    its.store c.send_list.result c.sent.result (sym c.sent.ensures)
    (c.send_list.ensures.writes held tells)

pub returns-clause-made : goal.returns-clause-made
returns-clause-made g c = λ engine stands. (
  engine,
  inl refl,
  subst (λ (s : Server). StoreStandsFor engine s.store) (sym c.self.view_is) stands,
)
