use Rattle.command_bounds.proofs.Accepted.{accepted_have_spelling as holds}
use Rattle.command_bounds.proofs.laws.accepted_have_spelling.Goals as goal

pub returns : goal.returns
returns c = holds c.commands_keep_sound.ensures
