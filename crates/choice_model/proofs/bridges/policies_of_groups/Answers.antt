use Rattle.choice_model.proofs.Bridged.{policies}
use Rattle.choice_model.proofs.bridges.policies_of_groups.Goals as goal

pub returns : goal.returns
returns c = policies
