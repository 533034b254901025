use Rattle.first_version.proofs.Steps.{empty_first}
use Rattle.first_version.proofs.laws.empty_is_former.Goals as goal

pub returns : goal.returns
returns c = empty_first
