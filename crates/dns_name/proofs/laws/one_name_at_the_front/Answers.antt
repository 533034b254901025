use Rattle.dns_name.proofs.Labels.{one_name}
use Rattle.dns_name.proofs.laws.one_name_at_the_front.Goals as goal

pub returns : goal.returns
returns c = one_name
