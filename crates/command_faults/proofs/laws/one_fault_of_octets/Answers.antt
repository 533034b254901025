use Rattle.command_faults.proofs.Told.{one_fault_of_octets}
use Rattle.command_faults.proofs.laws.one_fault_of_octets.Goals as goal

pub returns : goal.returns
returns c = one_fault_of_octets
