use Rattle.health_model.proofs.Paths.{paths_end}
use Rattle.health_model.proofs.laws.paths_end.Goals as goal

pub returns : goal.returns
returns c = paths_end
