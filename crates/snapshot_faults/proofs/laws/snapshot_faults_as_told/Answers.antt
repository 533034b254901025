use Rattle.snapshot_faults.proofs.Told.{snapshot_faults_as_told}
use Rattle.snapshot_faults.proofs.laws.snapshot_faults_as_told.Goals as goal

pub returns : goal.returns
returns c = snapshot_faults_as_told
