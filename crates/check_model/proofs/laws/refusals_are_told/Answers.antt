use Rattle.check_model.proofs.Told.{refusals_told}
use Rattle.check_model.proofs.laws.refusals_are_told.Goals as goal

pub returns : goal.returns
returns c = refusals_told
