use Rattle.line_bounds.proofs.Values.{are_values}
use Rattle.line_bounds.proofs.laws.texts_are_values.Goals as goal

pub returns : goal.returns
returns c = are_values c.spelled_is_field.ensures c.fields_go_on.ensures c.value_of_text.ensures
