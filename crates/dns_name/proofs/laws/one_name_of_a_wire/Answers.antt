use Rattle.dns_name.proofs.Labels.{one_wire}
use Rattle.dns_name.proofs.laws.one_name_of_a_wire.Goals as goal

pub returns : goal.returns
returns c = one_wire
