use Rattle.answer_model.proofs.Locating.{locates_as_told, told_once}
use Rattle.answer_model.proofs.laws.locates_as_told.Goals as goal

pub returns : goal.returns
returns g c = record { located = locates_as_told; once = told_once c.one_row_found.ensures }
