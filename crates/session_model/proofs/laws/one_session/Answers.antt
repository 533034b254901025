use Rattle.session_model.proofs.Single.{session}
use Rattle.session_model.proofs.laws.one_session.Goals as goal

pub returns : goal.returns
returns c = session c.one_step.ensures
