use Rattle.choice_model.proofs.Bridged.{weighted_sets}
use Rattle.choice_model.proofs.bridges.weighted_choice.Goals as goal

pub returns : goal.returns
returns c = weighted_sets
