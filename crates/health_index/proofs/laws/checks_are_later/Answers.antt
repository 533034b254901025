use Rattle.health_index.proofs.Commanding.{commands_follow}
use Rattle.health_index.proofs.laws.checks_are_later.Goals as goal

pub returns : goal.returns
returns c = commands_follow
