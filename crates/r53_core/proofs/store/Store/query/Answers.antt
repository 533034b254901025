use Rattle.std.proofs.Common.{◌∙◌, ℕ, Bool, ap, refl, subst, sym}
use Rattle.query_engine.specs.Reply.{Answers}
use Rattle.config_opening.specs.States.{config_of}
use Rattle.sound_configs.specs.Configs.{Config}
use Rattle.sound_configs.specs.Engine.{is_healthy}
use Rattle.sound_configs.specs.Index.{healthy_in}
use Rattle.query_engine.specs.Groups.{Agrees}
use Rattle.query_engine.specs.Asking.{answer_of, asker_of, served_by}
use Rattle.record_set.specs.declared.sets.SetKey.{SetKey}
use Rattle.r53_core.specs.Stores.{StandsFor, State}
use Rattle.config_opening.specs.Kept.{State as Kept, config_in}
use Rattle.sound_configs.specs.Served.{AreServed}
use Rattle.query_engine.specs.Tables.{Table}
use Rattle.r53_core.proofs.store.Store.query.Goals as goal

pub answer-requires-clause-served : goal.answer-requires-clause-served
answer-requires-clause-served c =
    subst (λ (t : Table). AreServed t.zones) (sym c.zones.ensures)
    (c.sound_is_served.ensures c.config-config.result.now.table.zones (config_in c.config-config.result.now) refl
    c.well_formed-2.ensures)

pub returns-clause-gives : goal.returns-clause-gives
returns-clause-gives c = λ engine stands.
    let its = subst (λ (s : State). StandsFor engine s) (sym c.self.view_is) stands in
    let zones = c.zones.ensures ∙ ap (λ (k : Kept). k.table) c.config-config.ensures in
    let config = config_of c.self.inside.kept in
    let agrees = c.index_serves.ensures c.self.inside.kept.config.table.zones config engine.reports
    c.self.inside.index refl its.health in
    let at_table = subst (λ (t : Table). (healthy : ℕ → SetKey → Bool)
    → Agrees t.zones (healthy_in c.self.inside.index) healthy
    → Answers (served_by t.zones t.collections.list healthy c.args.tables.now)
    (asker_of c.args.peer c.args.words.now) c.args.packet.now
    (answer_of c.answer.result c.answer.new.reply)) zones c.answer.ensures.answers in
    subst (λ (its_config : Config). Answers (record {
      zones = its_config.zones;
      collections = its_config.collections.list;
      healthy = is_healthy its_config engine.reports;
      tables = c.args.tables.now;
    }) (asker_of c.args.peer c.args.words.now) c.args.packet.now
    (answer_of c.answer.result c.answer.new.reply)) (sym its.config)
    (at_table (is_healthy config engine.reports) agrees)
