use Rattle.text_meanings.proofs.Told.{both_told}
use Rattle.text_meanings.proofs.laws.faults_as_told.Goals as goal

pub returns : goal.returns
returns c = both_told
