use Rattle.store_model.proofs.Taken as taken
use Rattle.store_model.proofs.laws.refused_are_refused.Goals as goal

pub returns : goal.returns
returns c = taken.refused_are_refused c.read_as_nothing_else.ensures c.one_outcome.ensures
