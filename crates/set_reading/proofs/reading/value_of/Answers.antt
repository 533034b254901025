use Rattle.std.proofs.Common.{arith}
use Rattle.set_reading.proofs.ValueLists.{reads_value}
use Rattle.set_reading.proofs.reading.value_of.Goals as goal

pub returns : goal.returns
returns c =
    reads_value c.args.rtype c.args.wire.now c.from_wire.result
    (λ i. omega (arith, c.type_inv.wire i)) c.from_wire.ensures
