use Rattle.health_index.proofs.CanCome.{can_come_owned}
use Rattle.health_index.proofs.laws.first_owned_can_come.Goals as goal

pub returns : goal.returns
returns c = can_come_owned
