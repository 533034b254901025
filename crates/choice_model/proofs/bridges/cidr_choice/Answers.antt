use Rattle.choice_model.proofs.Bridged.{cidr_sets}
use Rattle.choice_model.proofs.bridges.cidr_choice.Goals as goal

pub returns : goal.returns
returns c = cidr_sets
