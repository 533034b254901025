use Rattle.std.proofs.Common.{◌∙◌, Some, ap, arith, length, subst}
use Rattle.drill_run.proofs.Healthy.{named_at}
use Rattle.engine_model.specs.Engine.{is_healthy}
use Rattle.record_set.specs.Sets.{key_of}
use Rattle.zone_table.specs.Zones.{placed_in}
use Rattle.zone_table.specs.Looking.{IsSetAt}
use Rattle.zone_table.specs.Tables.{Table}
use Rattle.drill_run.proofs.health.is_healthy_at.Goals as goal

pub returns-in-Some : goal.returns-in-Some
returns-in-Some c = λ engine set stands there.
    let at = subst (λ (t : Table). IsSetAt t.zones 1 c.args.i (Some c.in-Some.set)) c.zones.ensures
    c.in-Some.ensures in
    c.is_healthy.ensures engine set stands
    (named_at c.args.store.now.kept.config.table.zones c.in-Some.set 1 c.args.i at.0 at.1 set there)
    ∙ ap (λ z. is_healthy engine.config engine.reports z (key_of set)) at.0

pub returns-in-None : goal.returns-in-None
returns-in-None c =
    let same = ap (λ (t : Table). length (placed_in t.zones 1)) c.zones.ensures in
    absurd (omega (arith, c.in-None.ensures, c.requires, same))
