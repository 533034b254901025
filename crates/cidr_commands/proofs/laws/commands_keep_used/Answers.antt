use Rattle.cidr_commands.proofs.Used.{kept_used}
use Rattle.cidr_commands.proofs.laws.commands_keep_used.Goals as goal

pub returns : goal.returns
returns c = kept_used c.changes_keep_placed.ensures
