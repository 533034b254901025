use Rattle.cidr_commands.proofs.Kept.{kept}
use Rattle.cidr_commands.proofs.laws.commands_keep_sound.Goals as goal

pub returns : goal.returns
returns c = kept c.changes_keep_collections.ensures
