use Rattle.dns_name.proofs.Depth.{below}
use Rattle.dns_name.proofs.laws.parents_come_first.Goals as goal

pub returns : goal.returns
returns c = below
