use Rattle.r53_io.proofs.Arrivals.{one_arrival}
use Rattle.r53_io.proofs.laws.one_arrival.Goals as goal

pub returns : goal.returns
returns c = one_arrival
