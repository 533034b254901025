use Rattle.text_meanings.proofs.Given.{values_spelled}
use Rattle.text_meanings.proofs.laws.values_as_spelled.Goals as goal

pub returns : goal.returns
returns c = values_spelled c.value_of_text.ensures
