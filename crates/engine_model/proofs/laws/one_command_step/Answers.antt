use Rattle.engine_model.proofs.Steps.{one_command_step}
use Rattle.engine_model.proofs.laws.one_command_step.Goals as goal

pub returns : goal.returns
returns c = one_command_step c.one_outcome.ensures
