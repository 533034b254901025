use Rattle.text_meanings.proofs.First.{stands_first}
use Rattle.text_meanings.proofs.laws.faults_stand_first.Goals as goal

pub returns : goal.returns
returns c = stands_first
