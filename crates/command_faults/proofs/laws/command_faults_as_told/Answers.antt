use Rattle.command_faults.proofs.Told.{command_faults_as_told}
use Rattle.command_faults.proofs.laws.command_faults_as_told.Goals as goal

pub returns : goal.returns
returns c = command_faults_as_told
