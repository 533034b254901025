use Rattle.choice_model.proofs.Bridged.{simple}
use Rattle.choice_model.proofs.bridges.simple_choice.Goals as goal

pub returns : goal.returns
returns c = simple
