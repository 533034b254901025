use Rattle.text_meanings.proofs.Told.{one_fault}
use Rattle.text_meanings.proofs.laws.one_fault_of_a_text.Goals as goal

pub returns : goal.returns
returns c = one_fault
