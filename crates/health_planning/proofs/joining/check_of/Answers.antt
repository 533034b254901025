use Rattle.std.proofs.Common.{ap, ◌∙◌}
use mathlib.Core.Path.{subst}
use Rattle.policy_select.proofs.Members.{one_named}
use Rattle.record_set.specs.declared.sets.RecordSet.{RecordSet}
use Rattle.policy_select.specs.Looking.{Watches}
use Rattle.health_planning.proofs.joining.check_of.Goals as goal

pub returns-in-Some : goal.returns-in-Some
returns-in-Some c named names =
    let zones = c.args.zones.now.zones in
    let w = subst (Watches zones c.args.set) c.in-Some.is c.watch.ensures in
    let same = one_named zones c.args.set w.0 named c.well_formed-2.ensures w.1 names in
    ap (λ x. x.check) w.2 ∙ ap (λ (s : RecordSet). s.check) same
