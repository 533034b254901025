use Rattle.r53_cli.proofs.Statuses.{one_status}
use Rattle.r53_cli.proofs.laws.one_status.Goals as goal

pub returns : goal.returns
returns c = one_status
