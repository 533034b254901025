use Rattle.health_index.proofs.CanUnfound.{can_unfound}
use Rattle.health_index.proofs.laws.last_can_leave.Goals as goal

pub returns : goal.returns
returns c = can_unfound
