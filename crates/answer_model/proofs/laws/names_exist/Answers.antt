use Rattle.answer_model.proofs.Naming.{names_below, names_exist}
use Rattle.answer_model.proofs.laws.names_exist.Goals as goal

pub returns : goal.returns
returns c = record { below = names_below; exist = names_exist }
