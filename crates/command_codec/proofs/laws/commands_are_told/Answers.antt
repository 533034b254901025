use Rattle.command_codec.proofs.Commands.{commands_are_told}
use Rattle.command_codec.proofs.laws.commands_are_told.Goals as goal

pub returns : goal.returns
returns c = commands_are_told c.written_reads_back.ensures c.sets_are_told.ensures
    c.check_commands_are_read.ensures c.cidr_commands_are_read.ensures
