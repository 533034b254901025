use Rattle.cidr_changes.proofs.Keeping.{keep}
use Rattle.cidr_changes.proofs.laws.changes_keep_collections.Goals as goal

pub returns : goal.returns
returns c = keep
