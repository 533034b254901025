use Rattle.health_index.proofs.CanUnlead.{can_unlead}
use Rattle.health_index.proofs.laws.aliases_can_leave.Goals as goal

pub returns : goal.returns
returns c = can_unlead
