use Rattle.fault_places.proofs.Sets.{faults_stand_first}
use Rattle.fault_places.proofs.laws.faults_stand_first.Goals as goal

pub returns : goal.returns
returns c = faults_stand_first
