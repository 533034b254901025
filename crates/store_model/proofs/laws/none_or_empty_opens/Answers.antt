use Rattle.store_model.proofs.Standing as standing
use Rattle.store_model.proofs.laws.none_or_empty_opens.Goals as goal

pub returns : goal.returns
returns c = standing.none_or_empty_opens c.empty_opens.ensures
