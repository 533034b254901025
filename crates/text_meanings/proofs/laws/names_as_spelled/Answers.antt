use Rattle.text_meanings.proofs.Told.{names_spelled}
use Rattle.text_meanings.proofs.laws.names_as_spelled.Goals as goal

pub returns : goal.returns
returns c = names_spelled
