use Rattle.dns_name.proofs.Lower.{stored_copy}
use Rattle.dns_name.proofs.name.Name.of_octets.Goals as goal

pub invariant_of-result : goal.invariant_of-result
invariant_of-result c = (stored_copy _ _ c.requires c.fill_front.ensures).0

pub returns : goal.returns
returns c = (stored_copy _ _ c.requires c.fill_front.ensures).1
