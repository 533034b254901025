use Rattle.block_reading.proofs.Commands.{commands_read}
use Rattle.block_reading.proofs.laws.cidr_commands_are_read.Goals as goal

pub returns : goal.returns
returns c = commands_read
