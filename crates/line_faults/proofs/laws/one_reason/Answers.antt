use Rattle.line_faults.proofs.Names.{one_reason}
use Rattle.line_faults.proofs.laws.one_reason.Goals as goal

pub returns : goal.returns
returns c = one_reason
