use Rattle.config_model.proofs.Outcomes as outcomes
use Rattle.config_model.proofs.laws.one_outcome.Goals as goal

pub returns : goal.returns
returns c = outcomes.one_outcome c.one_batch_outcome.ensures
