use Rattle.cidr_changes.proofs.Members.{all, once}
use Rattle.cidr_changes.proofs.laws.blocks_are_gathered.Goals as goal

pub returns-clause-all : goal.returns-clause-all
returns-clause-all c = all

pub returns-clause-once : goal.returns-clause-once
returns-clause-once c = once
