use Rattle.choice_model.proofs.Within.{some_chosen}
use Rattle.choice_model.proofs.laws.some_is_chosen.Goals as goal

pub returns : goal.returns
returns c = some_chosen
