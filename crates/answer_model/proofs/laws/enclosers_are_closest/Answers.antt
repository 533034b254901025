use Rattle.answer_model.proofs.Naming.{enclosers_are_closest}
use Rattle.answer_model.proofs.laws.enclosers_are_closest.Goals as goal

pub returns : goal.returns
returns c = enclosers_are_closest
