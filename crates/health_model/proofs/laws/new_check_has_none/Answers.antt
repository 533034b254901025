use Rattle.health_model.proofs.Changing.{new_has_none}
use Rattle.health_model.proofs.laws.new_check_has_none.Goals as goal

pub returns : goal.returns
returns c = new_has_none
