use Rattle.dns_wire.proofs.Fields.{size_is}
use Rattle.dns_wire.proofs.data.size_of.Goals as goal

pub returns-clause-size : goal.returns-clause-size
returns-clause-size c =
    size_is c.args.field c.args.octets.now c.in-Some.len c.in-Some.ensures.within
    c.in-Some.ensures.some
