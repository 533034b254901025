use Rattle.cidr_blocks.proofs.Ties.{one}
use Rattle.cidr_blocks.proofs.laws.one_order.Goals as goal

pub returns : goal.returns
returns c = one
