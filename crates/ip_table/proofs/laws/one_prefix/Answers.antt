use Rattle.ip_table.proofs.Octets.{one_prefix}
use Rattle.ip_table.proofs.laws.one_prefix.Goals as goal

pub returns : goal.returns
returns c = one_prefix
