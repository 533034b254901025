use Rattle.text_meanings.proofs.Splits.{as_found}
use Rattle.text_meanings.proofs.laws.fields_as_found.Goals as goal

pub returns : goal.returns
returns c = as_found
