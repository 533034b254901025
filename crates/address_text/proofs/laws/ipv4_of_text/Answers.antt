use Rattle.address_text.proofs.Dotted.{ipv4}
use Rattle.address_text.proofs.laws.ipv4_of_text.Goals as goal

pub returns : goal.returns
returns c = ipv4
