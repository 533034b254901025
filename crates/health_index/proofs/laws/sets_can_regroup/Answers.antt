use Rattle.health_index.proofs.CanRegroup.{can_join, can_leave}
use Rattle.health_index.proofs.laws.sets_can_regroup.Goals as goal

pub returns-clause-leave : goal.returns-clause-leave
returns-clause-leave c = can_leave

pub returns-clause-join : goal.returns-clause-join
returns-clause-join c = can_join
