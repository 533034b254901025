use Rattle.engine_model.proofs.Steps.{one_compaction_step}
use Rattle.engine_model.proofs.laws.one_compaction_step.Goals as goal

pub returns : goal.returns
returns c = one_compaction_step
