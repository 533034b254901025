use Rattle.rdata.proofs.Functions.{texts_read}
use Rattle.rdata.proofs.laws.texts_read_as_values.Goals as goal

pub returns : goal.returns
returns c = texts_read c.value_of_text.ensures
