use Rattle.cidr_changes.proofs.Begun.{begins, in_order}
use Rattle.cidr_changes.proofs.Told.{puts, removes}
use Rattle.cidr_changes.proofs.laws.changes_are_told.Goals as goal

pub returns-clause-begins : goal.returns-clause-begins
returns-clause-begins c = begins

pub returns-clause-order : goal.returns-clause-order
returns-clause-order c = in_order

pub returns-clause-puts : goal.returns-clause-puts
returns-clause-puts c = puts

pub returns-clause-removes : goal.returns-clause-removes
returns-clause-removes c = removes
