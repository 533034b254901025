use Rattle.check_model.proofs.Kept.{left}
use Rattle.check_model.proofs.laws.rest_is_left.Goals as goal

pub returns : goal.returns
returns c = left
