use Rattle.command_codec.proofs.Commands.{one_command}
use Rattle.command_codec.proofs.laws.one_spelling.Goals as goal

pub returns : goal.returns
returns c = one_command c.written_reads_back.ensures c.sets_are_told.ensures
    c.check_commands_are_read.ensures c.cidr_commands_are_read.ensures
