use Rattle.std.proofs.Common.{◌≡◌, ◌∙◌, refl, subst, sym}
use Rattle.config_opening.specs.States.{config_of}
use Rattle.sound_configs.specs.Configs.{Config}
use Rattle.sound_configs.specs.Engine.{is_healthy}
use Rattle.record_set.specs.Sets.{key_of}
use Rattle.r53_core.specs.Stores.{StandsFor, State}
use Rattle.query_engine.specs.Looking.{RefersTo}
use Rattle.r53_core.proofs.store.Store.is_healthy.Goals as goal

pub returns : goal.returns
returns c = λ engine named stands names.
    let its = subst (λ (s : State). StandsFor engine s) (sym c.self.view_is) stands in
    let there = subst (λ (s : State). RefersTo s.kept.config.table.zones c.args.set named)
    (sym c.self.view_is) names in
    subst (λ (config : Config). c.is_healthy.result
    ≡ is_healthy config engine.reports c.args.set.zone (key_of named)) (sym its.config)
    (c.is_healthy.ensures ∙ c.index_serves.ensures c.self.inside.kept.config.table.zones
    (config_of c.self.inside.kept) engine.reports c.self.inside.index refl its.health c.args.set
    named there)
