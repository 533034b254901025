use Rattle.rdata.proofs.Functions.{value_is}
use Rattle.rdata.proofs.laws.value_of_text.Goals as goal

pub returns : goal.returns
returns c = value_is c.octets_of_text.ensures c.one_reading.ensures
