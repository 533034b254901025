use Rattle.multivalue.proofs.Eight.{eight}
use Rattle.multivalue.proofs.laws.eight_at_most.Goals as goal

pub returns : goal.returns
returns c = eight
