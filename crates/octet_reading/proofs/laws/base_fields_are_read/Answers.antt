use Rattle.octet_reading.proofs.Base.{base_fields_are_read}
use Rattle.octet_reading.proofs.laws.base_fields_are_read.Goals as goal

pub returns : goal.returns
returns c = base_fields_are_read
