use Rattle.answer_model.proofs.Bounds.{few_choices}
use Rattle.answer_model.proofs.laws.few_choices.Goals as goal

pub returns : goal.returns
returns c = few_choices
