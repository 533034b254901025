use Rattle.std.proofs.Common.{◌∙◌, ap, subst, sym}
use Rattle.sound_configs.specs.Configs.{Config}
use Rattle.health_model.specs.Statuses.{status_told}
use Rattle.r53_core.specs.Stores.{StandsFor, State}
use Rattle.r53_core.proofs.store.Store.check_status.Goals as goal

pub returns : goal.returns
returns c = λ engine stands.
    let its = subst (λ (s : State). StandsFor engine s) (sym c.self.view_is) stands in
    c.check_status.ensures c.self.inside.kept.config.table.zones
    c.self.inside.kept.config.checks.checks engine.reports its.health
    ∙ ap (λ (config : Config). status_told config.checks.list engine.reports c.args.id)
    (sym its.config)
