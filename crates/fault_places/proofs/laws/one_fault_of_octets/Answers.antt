use Rattle.fault_places.proofs.Sets.{one_fault_of_octets}
use Rattle.fault_places.proofs.laws.one_fault_of_octets.Goals as goal

pub returns : goal.returns
returns c = one_fault_of_octets
