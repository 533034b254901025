use Rattle.snapshot_faults.proofs.Told.{faults_stand_first}
use Rattle.snapshot_faults.proofs.laws.faults_stand_first.Goals as goal

pub returns : goal.returns
returns c = faults_stand_first
