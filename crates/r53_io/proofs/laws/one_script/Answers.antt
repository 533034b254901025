use Rattle.r53_io.proofs.Arrivals.{one_script}
use Rattle.r53_io.proofs.laws.one_script.Goals as goal

pub returns : goal.returns
returns c = one_script
