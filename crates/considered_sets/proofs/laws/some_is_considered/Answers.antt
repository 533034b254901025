use Rattle.considered_sets.proofs.Places.{some_considered}
use Rattle.considered_sets.proofs.laws.some_is_considered.Goals as goal

pub returns : goal.returns
returns c = some_considered
