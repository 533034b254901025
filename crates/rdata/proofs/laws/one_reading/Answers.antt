use Rattle.rdata.proofs.One.{one_of_text}
use Rattle.rdata.proofs.laws.one_reading.Goals as goal

pub returns : goal.returns
returns c = one_of_text c.one_reading.ensures
