use Rattle.octet_reading.proofs.Told.{names_are_told}
use Rattle.octet_reading.proofs.laws.names_are_told.Goals as goal

pub returns : goal.returns
returns c = names_are_told
