use Rattle.store_model.proofs.Made as made
use Rattle.store_model.proofs.laws.unsound_are_baseless.Goals as goal

pub returns : goal.returns
returns c = made.unsound_are_baseless c.one_configuration.ensures
