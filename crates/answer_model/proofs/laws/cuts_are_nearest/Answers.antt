use Rattle.answer_model.proofs.Cutting.{cuts_are_nearest}
use Rattle.answer_model.proofs.laws.cuts_are_nearest.Goals as goal

pub returns : goal.returns
returns c = cuts_are_nearest
