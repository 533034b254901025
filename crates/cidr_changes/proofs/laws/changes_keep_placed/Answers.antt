use Rattle.cidr_changes.proofs.Placing.{keep_placed}
use Rattle.cidr_changes.proofs.laws.changes_keep_placed.Goals as goal

pub returns : goal.returns
returns c = keep_placed
