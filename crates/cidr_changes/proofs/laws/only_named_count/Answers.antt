use Rattle.cidr_changes.proofs.Named.{only_named}
use Rattle.cidr_changes.proofs.laws.only_named_count.Goals as goal

pub returns : goal.returns
returns c = only_named
