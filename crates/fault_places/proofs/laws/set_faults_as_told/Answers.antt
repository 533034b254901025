use Rattle.fault_places.proofs.Sets.{set_faults_as_told}
use Rattle.fault_places.proofs.laws.set_faults_as_told.Goals as goal

pub returns : goal.returns
returns c = set_faults_as_told
