use Rattle.health_model.proofs.Reported.{one_more_report}
use Rattle.health_model.proofs.laws.one_more_report.Goals as goal

pub returns : goal.returns
returns c = one_more_report
