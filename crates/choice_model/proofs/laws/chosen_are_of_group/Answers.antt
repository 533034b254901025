use Rattle.choice_model.proofs.Within.{of_group}
use Rattle.choice_model.proofs.laws.chosen_are_of_group.Goals as goal

pub returns : goal.returns
returns c = of_group
