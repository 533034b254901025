use Rattle.command_bounds.proofs.Short.{accepted_are_short as holds}
use Rattle.command_bounds.proofs.laws.accepted_are_short.Goals as goal

pub returns : goal.returns
returns c = holds c.commands_keep_sound.ensures
