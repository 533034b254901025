use Rattle.value_text.proofs.OneField.{one_field}
use Rattle.value_text.proofs.laws.string_is_one_field.Goals as goal

pub returns : goal.returns
returns c = one_field
