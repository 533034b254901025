use Rattle.store_model.proofs.Made as made
use Rattle.store_model.proofs.laws.accepted_are_taken.Goals as goal

pub returns : goal.returns
returns c = made.accepted_are_taken
