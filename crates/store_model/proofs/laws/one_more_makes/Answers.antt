use Rattle.store_model.proofs.Taken.{makes_more}
use Rattle.store_model.proofs.laws.one_more_makes.Goals as goal

pub returns : goal.returns
returns c = makes_more
