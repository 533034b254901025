use Rattle.address_text.proofs.Addresses.{one_ipv4}
use Rattle.address_text.proofs.laws.one_ipv4_of_a_text.Goals as goal

pub returns : goal.returns
returns c = one_ipv4
