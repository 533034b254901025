use Rattle.set_reading.proofs.Whole.{sets_are_told}
use Rattle.set_reading.proofs.laws.sets_are_told.Goals as goal

pub returns : goal.returns
returns c = sets_are_told c.fields_are_read.ensures
