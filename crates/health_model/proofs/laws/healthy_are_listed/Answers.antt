use Rattle.health_model.proofs.Listed.{healthy_listed}
use Rattle.health_model.proofs.laws.healthy_are_listed.Goals as goal

pub returns : goal.returns
returns c = healthy_listed
