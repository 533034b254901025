use Rattle.cidr_routing.proofs.Once.{one_in}
use Rattle.cidr_routing.proofs.laws.one_location_in.Goals as goal

pub returns : goal.returns
returns c = one_in c.one_row_found.ensures
