use Rattle.check_reading.proofs.Commands.{commands_read}
use Rattle.check_reading.proofs.laws.check_commands_are_read.Goals as goal

pub returns : goal.returns
returns c = commands_read
