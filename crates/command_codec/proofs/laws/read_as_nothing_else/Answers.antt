use Rattle.command_codec.proofs.Commands.{read_as_nothing_else}
use Rattle.command_codec.proofs.laws.read_as_nothing_else.Goals as goal

pub returns : goal.returns
returns c = read_as_nothing_else c.written_reads_back.ensures c.sets_are_told.ensures
    c.check_commands_are_read.ensures c.cidr_commands_are_read.ensures
