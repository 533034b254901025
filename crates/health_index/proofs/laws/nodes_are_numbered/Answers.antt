use Rattle.health_index.proofs.Numbering.{nodes_are_numbered}
use Rattle.health_index.proofs.laws.nodes_are_numbered.Goals as goal

pub returns : goal.returns
returns c = nodes_are_numbered
