use Rattle.health_index.proofs.CanCome.{can_come}
use Rattle.health_index.proofs.laws.aliases_can_come.Goals as goal

pub returns : goal.returns
returns c = can_come
