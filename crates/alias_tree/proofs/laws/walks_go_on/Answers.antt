use Rattle.alias_tree.proofs.Walking.{walks_go_on}
use Rattle.alias_tree.proofs.laws.walks_go_on.Goals as goal

pub returns : goal.returns
returns c = walks_go_on
