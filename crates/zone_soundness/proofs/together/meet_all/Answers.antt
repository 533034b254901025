use Rattle.zone_soundness.proofs.Answered.{isnt}
use Rattle.zone_rules.specs.Lent.{sets_lent}
use Rattle.zone_soundness.proofs.Firsts.{not_met}
use Rattle.zone_soundness.proofs.together.meet_all.Goals as goal

pub returns-in-Some : goal.returns-in-Some
returns-in-Some c =
    isnt (not_met (sets_lent c.args.sets.now) c.args.apex.now c.in-Some.field-0 c.in-Some.ensures)
