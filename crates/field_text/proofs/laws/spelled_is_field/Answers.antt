use Rattle.field_text.proofs.Spelled.{is_field}
use Rattle.field_text.proofs.laws.spelled_is_field.Goals as goal

pub returns : goal.returns
returns c = is_field
