use Rattle.std.proofs.Common.{refl}
use Rattle.health_index.proofs.Laid.{as_much_after}
use Rattle.health_index.proofs.index.HealthIndex.follow.Goals as goal

pub returns-clause-stands : goal.returns-clause-stands
returns-clause-stands c zones old reports stands later sound done =
    c.follow_checks.ensures.stands zones reports
    (c.if-not-take_ids.ensures.followed zones old reports stands later sound refl) sound

pub returns-clause-as_much : goal.returns-clause-as_much
returns-clause-as_much c = as_much_after _ _ _ c.if-not-take_ids.ensures.as_much c.follow_checks.ensures.as_much
