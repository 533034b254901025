use Rattle.value_text.proofs.GoesOn.{goes_on}
use Rattle.value_text.proofs.laws.fields_go_on.Goals as goal

pub returns : goal.returns
returns c = goes_on
