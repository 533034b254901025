use Rattle.health_model.proofs.Recursion.{recursion_meets}
use Rattle.health_model.proofs.laws.recursion_meets_equations.Goals as goal

pub returns : goal.returns
returns c = recursion_meets
