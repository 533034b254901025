use Rattle.std.proofs.Common.{◌≡◌, ◌∙◌, ◌∷◌, ℕ, List, Option, Some, ap, arith, inl, inr, length, refl, subst, sym}
use Rattle.check_model.specs.declared.checks.Check.{Check}
use Rattle.check_model.specs.declared.checks.Check.TheVariants.{Endpoint}
use Rattle.sound_configs.specs.Index.{IsEndpoint}
use Rattle.check_model.specs.Checks.{check_with}
use Rattle.config_opening.specs.States.{config_of}
use Rattle.sound_configs.specs.Configs.{Config}
use Rattle.sound_configs.specs.Engine.{watched_in}
use Rattle.sound_configs.specs.Index.{reported}
use Rattle.health_model.specs.Healthy.{Watched}
use Rattle.health_model.specs.Nodes.{CheckNode, InCone}
use Rattle.health_model.specs.Statuses.{status}
use Rattle.r53_core.proofs.Reporting.{cost_of, decided, quiet_of}
use Rattle.r53_core.specs.Stores.{StandsFor, State}
use Rattle.sound_configs.proofs.Serving.{seen}
use Rattle.r53_core.proofs.store.Store.report.Goals as goal

pub returns-clause-quiet : goal.returns-clause-quiet
returns-clause-quiet g c = λ engine stands same.
    let its = subst (λ (s : State). StandsFor engine s) (sym c.self.view_is) stands in
    let zones = c.self.inside.kept.config.table.zones in
    let checks = c.self.inside.kept.config.checks.checks in
    let now = subst (λ (config : Config). status config.checks.list
    (reported c.args.id c.args.checker c.args.pass ∷ engine.reports) c.args.id
    ≡ status config.checks.list engine.reports c.args.id) its.config same in
    elim (decided (check_with checks.list c.args.id)) [
      | inl endpoint ↦ quiet_of c.on_report.result
          (status checks.list (reported c.args.id c.args.checker c.args.pass ∷ engine.reports)
          c.args.id)
          (status checks.list engine.reports c.args.id) c.on_report.ensures.quiet
          (c.on_report.ensures.changed zones checks engine.reports its.health endpoint) now
      | inr other ↦ (c.on_report.ensures.other zones checks engine.reports its.health other).2
    ]

pub returns-clause-cost : goal.returns-clause-cost
returns-clause-cost g c = λ engine cone stands within.
    let its = subst (λ (s : State). StandsFor engine s) (sym c.self.view_is) stands in
    let zones = c.self.inside.kept.config.table.zones in
    let config = config_of c.self.inside.kept in
    cost_of c.on_report.result c.on_report.new.steps c.args.steps.now (length cone)
    (c.on_report.ensures.cost zones config.checks engine.reports its.health cone
    (λ node there. within node
    (subst (λ (watched : Watched). InCone watched (CheckNode c.args.id) node)
    (sym (ap watched_in its.config ∙ seen zones config engine.reports refl)) there)))

pub returns-clause-reports : goal.returns-clause-reports
returns-clause-reports g c = λ engine stands.
    let its = subst (λ (s : State). StandsFor engine s) (sym c.self.view_is) stands in
    let zones = c.self.inside.kept.config.table.zones in
    let checks = c.self.inside.kept.config.checks.checks in
    let here : check_with c.checks.result.now.checks.list c.args.id ≡ check_with checks.list c.args.id =
    ap (λ table. check_with table.checks.list c.args.id) c.checks.ensures
    ∙ ap (λ config. check_with config.checks.checks.list c.args.id) c.config.ensures in
    let found : check_with checks.list c.args.id
    ≡ Some (Endpoint c.in-Some-Endpoint.field-0-0 c.in-Some-Endpoint.field-0-1 c.in-Some-Endpoint.field-0-2) =
    sym here ∙ (sym c.in-Some-Endpoint.ensures.check ∙ ap Some c.in-Some-Endpoint.field-0-is) in
    let same : engine.config.checks.list ≡ checks.list = ap (λ (config : Config). config.checks.list) its.config in (
      record engine { reports = reported c.args.id c.args.checker c.args.pass ∷ engine.reports },
      (
        (
          c.in-Some-Endpoint.field-0-0,
          (
            c.in-Some-Endpoint.field-0-1,
            c.in-Some-Endpoint.field-0-2,
            ap (λ (list : List (ℕ × Check)). check_with list c.args.id) same ∙ found,
          ),
        ),
        omega (arith, c.if-checker-ge50.false),
        refl,
      ),
      record {
        config = its.config;
        health =
            c.on_report.ensures.stands zones checks engine.reports its.health
            (subst (λ (check : Option Check). IsEndpoint check) (sym found) tt);
        journal = its.journal;
      },
    )
