use Rattle.line_faults.proofs.Names.{one_name}
use Rattle.line_faults.proofs.laws.one_name.Goals as goal

pub returns : goal.returns
returns c = one_name
