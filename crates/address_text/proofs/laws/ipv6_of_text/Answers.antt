use Rattle.address_text.proofs.Sides.{ipv6}
use Rattle.address_text.proofs.laws.ipv6_of_text.Goals as goal

pub returns : goal.returns
returns c = ipv6
