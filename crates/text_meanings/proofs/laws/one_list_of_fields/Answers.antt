use Rattle.text_meanings.proofs.Splits.{some_fields, one_list}
use Rattle.text_meanings.proofs.laws.one_list_of_fields.Goals as goal

pub returns : goal.returns
returns c = λ text. (some_fields text, one_list text)
