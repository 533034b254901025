use Rattle.field_text.proofs.OneField.{one_field}
use Rattle.field_text.proofs.laws.written_field_is_one_field.Goals as goal

pub returns : goal.returns
returns c = one_field
