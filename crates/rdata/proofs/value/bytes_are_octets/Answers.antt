use Rattle.std.proofs.Common.{arith}
use Rattle.rdata.proofs.Octets.{are_octets}
use Rattle.rdata.proofs.value.bytes_are_octets.Goals as goal

pub returns : goal.returns
returns c = are_octets c.args.bytes.now (λ i. omega (arith, c.type_inv.bytes i))
