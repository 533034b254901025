use Rattle.set_fields.proofs.Fields.{fields_are_read}
use Rattle.set_fields.proofs.laws.fields_are_read.Goals as goal

pub returns : goal.returns
returns c = fields_are_read
