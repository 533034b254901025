use Rattle.octet_reading.proofs.Told.{layouts_are_told}
use Rattle.octet_reading.proofs.laws.layouts_are_told.Goals as goal

pub returns : goal.returns
returns c = layouts_are_told
