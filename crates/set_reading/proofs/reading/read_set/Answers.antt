use Rattle.std.proofs.Common.{arith}
use Rattle.set_fields.proofs.Textual.{are_octets}
use Rattle.set_reading.proofs.Whole.{is_found, is_only}
use Rattle.set_reading.proofs.reading.read_set.Goals as goal

pub returns-clause-found : goal.returns-clause-found
returns-clause-found c = is_found c.fields_are_read.ensures c.args.bytes.now c.read.result
    (are_octets c.args.bytes.now (λ i. omega (arith, c.type_inv.bytes i))) c.read.ensures.exact

pub returns-clause-only : goal.returns-clause-only
returns-clause-only c =
    is_only c.fields_are_read.ensures c.args.bytes.now c.read.result c.read.ensures.exact
