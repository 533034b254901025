use Rattle.command_bounds.proofs.Spelled.{spelled_are_bounded as holds}
use Rattle.command_bounds.proofs.laws.spelled_are_bounded.Goals as goal

pub returns : goal.returns
returns c = holds
