use Rattle.text_meanings.proofs.Quoted.{strings_spelled}
use Rattle.text_meanings.proofs.laws.strings_as_spelled.Goals as goal

pub returns : goal.returns
returns c = strings_spelled
