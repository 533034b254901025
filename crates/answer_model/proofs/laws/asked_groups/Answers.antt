use Rattle.answer_model.proofs.Zoning.{asked_groups}
use Rattle.answer_model.proofs.laws.asked_groups.Goals as goal

pub returns : goal.returns
returns c = asked_groups
