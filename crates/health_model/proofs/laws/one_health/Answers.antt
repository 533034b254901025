use Rattle.health_model.proofs.Recursion.{one_health}
use Rattle.health_model.proofs.laws.one_health.Goals as goal

pub returns : goal.returns
returns c = one_health
