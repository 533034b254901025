use Rattle.command_faults.proofs.Told.{commands_are_fields}
use Rattle.command_faults.proofs.laws.commands_are_fields.Goals as goal

pub returns : goal.returns
returns c = commands_are_fields
