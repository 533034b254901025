use Rattle.text_meanings.proofs.Single.{fields_spelled}
use Rattle.text_meanings.proofs.laws.fields_as_spelled.Goals as goal

pub returns : goal.returns
returns c = fields_spelled
