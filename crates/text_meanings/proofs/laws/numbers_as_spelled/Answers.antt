use Rattle.text_meanings.proofs.Single.{numbers_spelled}
use Rattle.text_meanings.proofs.laws.numbers_as_spelled.Goals as goal

pub returns : goal.returns
returns c = numbers_spelled
