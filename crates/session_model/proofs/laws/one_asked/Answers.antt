use Rattle.session_model.proofs.Single.{asked}
use Rattle.session_model.proofs.laws.one_asked.Goals as goal

pub returns : goal.returns
returns c = asked
