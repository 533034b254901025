use Rattle.health_model.proofs.Working.{one_pass}
use Rattle.health_model.proofs.laws.one_pass.Goals as goal

pub returns : goal.returns
returns c = one_pass
