use Rattle.command_codec.proofs.Commands.{written_reads_back}
use Rattle.command_codec.proofs.laws.written_reads_back.Goals as goal

pub returns : goal.returns
returns c = written_reads_back c.written_reads_back.ensures c.sets_are_told.ensures
    c.check_commands_are_read.ensures c.cidr_commands_are_read.ensures
