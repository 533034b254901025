use Rattle.std.proofs.Common.{◌∙◌, ap, sym}
use mathlib.Core.Path.{subst}
use Rattle.health_planning.proofs.Members.{one_named}
use Rattle.health_planning.specs.Looking.{Watches}
use Rattle.health_planning.specs.Telling.{evaluates}
use Rattle.record_set.specs.declared.sets.RecordSet.{RecordSet}
use Rattle.health_standing.proofs.Beside.{not_is}
use Rattle.health_standing.proofs.valve_leaving.is_off.Goals as goal

pub returns-in-Some : goal.returns-in-Some
returns-in-Some c =
    let zones = c.args.zones.now.zones in
    let w = subst (Watches zones c.args.set) c.in-Some.is c.watch.ensures in
    let told = ap (λ x. x.evaluates) w.2 in
    let both = not_is c.in-Some.watch.evaluates in (
      λ so. (w.0, w.1, sym told ∙ both.0 so),
      λ x. both.1 (told ∙ ap (λ (s : RecordSet). evaluates s.body) (one_named zones c.args.set w.0 x.0 c.well_formed-2.ensures w.1 x.1) ∙ x.2),
    )
