use Rattle.answer_model.proofs.Locating.{told_once_in}
use Rattle.answer_model.proofs.laws.told_in_collections.Goals as goal

pub returns : goal.returns
returns c = told_once_in c.locates_as_told.ensures.once
