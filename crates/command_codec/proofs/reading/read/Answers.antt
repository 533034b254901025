use Rattle.std.proofs.Common.{arith}
use Rattle.command_codec.proofs.Commands.{is_found, is_only, are_octets}
use Rattle.command_codec.proofs.reading.read.Goals as goal

pub returns-clause-found : goal.returns-clause-found
returns-clause-found c =
    is_found c.written_reads_back.ensures c.sets_are_told.ensures
    c.check_commands_are_read.ensures c.cidr_commands_are_read.ensures c.args.bytes.now
    c.read_whole.result
    (are_octets c.args.bytes.now (λ i. omega (arith, c.type_inv.bytes i)))
    c.read_whole.ensures.exact

pub returns-clause-only : goal.returns-clause-only
returns-clause-only c =
    is_only c.written_reads_back.ensures c.sets_are_told.ensures
    c.check_commands_are_read.ensures c.cidr_commands_are_read.ensures c.args.bytes.now
    c.read_whole.result c.read_whole.ensures.exact
