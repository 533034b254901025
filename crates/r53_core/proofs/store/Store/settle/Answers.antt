use Rattle.std.proofs.Common.{◌∙◌, ℕ, Bool, ap, drop, refl, subst, sym}
use Rattle.config_opening.specs.States.{config_of}
use Rattle.sound_configs.specs.Configs.{Config}
use Rattle.sound_configs.specs.Engine.{is_healthy}
use Rattle.sound_configs.specs.Index.{healthy_in}
use Rattle.query_engine.specs.Groups.{Agrees}
use Rattle.query_engine.specs.Served.{hosted_of}
use Rattle.record_set.specs.declared.sets.SetKey.{SetKey}
use Rattle.r53_core.proofs.Settling.{if_some}
use Rattle.r53_core.specs.Stores.{StandsFor, State}
use Rattle.config_opening.specs.Kept.{State as Kept, config_in}
use Rattle.settled_replies.specs.Settled.{AnswersAll, IsSettled}
use Rattle.settled_replies.specs.Settling.{CanSettle}
use Rattle.query_engine.specs.Asking.{served_by}
use Rattle.std.specs.Prelude.{◌↔◌, IsSome}
use Rattle.sound_configs.specs.Served.{AreServed}
use Rattle.query_engine.specs.Tables.{Table}
use Rattle.r53_core.proofs.store.Store.settle.Goals as goal

pub settle-requires-clause-served : goal.settle-requires-clause-served
settle-requires-clause-served c =
    subst (λ (t : Table). AreServed t.zones) (sym c.zones.ensures)
    (c.sound_is_served.ensures c.config-config.result.now.table.zones (config_in c.config-config.result.now) refl
    c.well_formed-2.ensures)

pub returns-clause-answers : goal.returns-clause-answers
returns-clause-answers c =
    let zones = c.zones.ensures ∙ ap (λ (k : Kept). k.table) c.config-config.ensures in
    let config = config_of c.self.inside.kept in
    if_some c.settle.result (λ said engine stands.
    let its = subst (λ (s : State). StandsFor engine s) (sym c.self.view_is) stands in
    let agrees = c.index_serves.ensures c.self.inside.kept.config.table.zones config engine.reports
    c.self.inside.index refl its.health in
    let at_table = subst (λ (t : Table). (healthy : ℕ → SetKey → Bool)
    → Agrees t.zones (healthy_in c.self.inside.index) healthy
    → AnswersAll (hosted_of t.zones) t.collections.list healthy c.args.tables.now c.args.packet.now c.settle.new.reply.bytes) zones said in
    subst (λ (its_config : Config). AnswersAll its_config.zones its_config.collections.list
    (is_healthy its_config engine.reports) c.args.tables.now c.args.packet.now c.settle.new.reply.bytes) (sym its.config)
    (at_table (is_healthy config engine.reports) agrees))
    c.settle.ensures.answers

pub returns-clause-settled : goal.returns-clause-settled
returns-clause-settled c =
    let zones = c.zones.ensures ∙ ap (λ (k : Kept). k.table) c.config-config.ensures in
    let config = config_of c.self.inside.kept in
    if_some c.settle.result (λ said engine stands.
    let its = subst (λ (s : State). StandsFor engine s) (sym c.self.view_is) stands in
    let agrees = c.index_serves.ensures c.self.inside.kept.config.table.zones config engine.reports
    c.self.inside.index refl its.health in
    let at_table = subst (λ (t : Table). (healthy : ℕ → SetKey → Bool)
    → Agrees t.zones (healthy_in c.self.inside.index) healthy
    → IsSettled (hosted_of t.zones) t.collections.list healthy c.args.tables.now (drop 2 c.args.packet.now) (drop 2 c.settle.new.reply.bytes)) zones said in
    subst (λ (its_config : Config). IsSettled its_config.zones its_config.collections.list
    (is_healthy its_config engine.reports) c.args.tables.now (drop 2 c.args.packet.now) (drop 2 c.settle.new.reply.bytes)) (sym its.config)
    (at_table (is_healthy config engine.reports) agrees))
    c.settle.ensures.settled

pub returns-clause-exact : goal.returns-clause-exact
returns-clause-exact c engine stands =
    let zones = c.zones.ensures ∙ ap (λ (k : Kept). k.table) c.config-config.ensures in
    let config = config_of c.self.inside.kept in
    let its = subst (λ (s : State). StandsFor engine s) (sym c.self.view_is) stands in
    let agrees = c.index_serves.ensures c.self.inside.kept.config.table.zones config engine.reports
    c.self.inside.index refl its.health in
    let at_table = subst (λ (t : Table). (healthy : ℕ → SetKey → Bool)
    → Agrees t.zones (healthy_in c.self.inside.index) healthy
    → (IsSome c.settle.result ↔ CanSettle (served_by t.zones t.collections.list healthy c.args.tables.now) c.args.packet.now)) zones
    c.settle.ensures.exact in
    subst (λ (its_config : Config). IsSome c.settle.result ↔ CanSettle (record {
      zones = its_config.zones;
      collections = its_config.collections.list;
      healthy = is_healthy its_config engine.reports;
      tables = c.args.tables.now;
    }) c.args.packet.now) (sym its.config)
    (at_table (is_healthy config engine.reports) agrees)
