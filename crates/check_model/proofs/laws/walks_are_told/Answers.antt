use Rattle.check_model.proofs.Walks.{walks_told}
use Rattle.check_model.proofs.laws.walks_are_told.Goals as goal

pub returns : goal.returns
returns c = walks_told
