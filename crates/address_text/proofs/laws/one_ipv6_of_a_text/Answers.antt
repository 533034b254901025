use Rattle.address_text.proofs.Addresses.{one_ipv6}
use Rattle.address_text.proofs.laws.one_ipv6_of_a_text.Goals as goal

pub returns : goal.returns
returns c = one_ipv6
