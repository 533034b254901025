use Rattle.field_text.proofs.Functions.{of_text}
use Rattle.field_text.proofs.laws.octets_of_text.Goals as goal

pub returns : goal.returns
returns c = of_text c.ipv4_of_text.ensures c.ipv6_of_text.ensures
