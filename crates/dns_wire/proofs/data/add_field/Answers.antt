use Rattle.dns_wire.proofs.Names.{name_field}
use Rattle.dns_wire.proofs.data.add_field.Goals as goal

pub add_octets-requires-clause-octets : goal.add_octets-requires-clause-octets
add_octets-requires-clause-octets c =
    name_field c.args.octets.now c.args.field c.in-Name.is c.requires.field
