use Rattle.set_reading.proofs.Whole.{one_spelling}
use Rattle.set_reading.proofs.laws.one_spelling.Goals as goal

pub returns : goal.returns
returns c = one_spelling c.fields_are_read.ensures
