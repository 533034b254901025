use Rattle.health_model.proofs.Working.{one_node}
use Rattle.health_model.proofs.laws.one_node.Goals as goal

pub returns : goal.returns
returns c = one_node
