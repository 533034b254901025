use Rattle.alias_tree.proofs.Walking.{walks_begin}
use Rattle.alias_tree.proofs.laws.walks_begin.Goals as goal

pub returns : goal.returns
returns c = walks_begin
