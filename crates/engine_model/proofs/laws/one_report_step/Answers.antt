use Rattle.engine_model.proofs.Steps.{one_report_step}
use Rattle.engine_model.proofs.laws.one_report_step.Goals as goal

pub returns : goal.returns
returns c = one_report_step
