use Rattle.answer_model.proofs.Bounds.{rcodes_of_sections}
use Rattle.answer_model.proofs.laws.rcodes_of_sections.Goals as goal

pub returns : goal.returns
returns c = rcodes_of_sections
