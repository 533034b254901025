use Rattle.std.proofs.Common.{arith}
use Rattle.dns_name.proofs.Texts.{all_octets, name_of_octets}
use Rattle.dns_name.proofs.walk.name_octets.Goals as goal

pub returns-clause-octets : goal.returns-clause-octets
returns-clause-octets c = all_octets c.args.octets.now (λ i. omega (arith, c.type_inv.octets i))

pub returns-clause-name : goal.returns-clause-name
returns-clause-name c =
    name_of_octets c.args.octets.now c.requires (λ i. omega (arith, c.type_inv.octets i))
