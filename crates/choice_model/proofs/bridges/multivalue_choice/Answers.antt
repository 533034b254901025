use Rattle.choice_model.proofs.Bridged.{multivalue_sets}
use Rattle.choice_model.proofs.bridges.multivalue_choice.Goals as goal

pub returns : goal.returns
returns c = multivalue_sets
