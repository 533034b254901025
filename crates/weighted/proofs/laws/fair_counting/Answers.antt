use Rattle.weighted.proofs.Fair.{fair}
use Rattle.weighted.proofs.laws.fair_counting.Goals as goal

pub returns : goal.returns
returns c = fair
