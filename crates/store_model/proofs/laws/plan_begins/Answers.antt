use Rattle.store_model.proofs.Made as made
use Rattle.store_model.proofs.laws.plan_begins.Goals as goal

pub returns : goal.returns
returns c = made.plan_begins
