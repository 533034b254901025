use Rattle.weighted.proofs.Fair.{running}
use Rattle.weighted.proofs.laws.running_sum.Goals as goal

pub returns : goal.returns
returns c = running
