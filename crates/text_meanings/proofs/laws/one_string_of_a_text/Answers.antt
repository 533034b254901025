use Rattle.text_meanings.proofs.Quoted.{one_string}
use Rattle.text_meanings.proofs.laws.one_string_of_a_text.Goals as goal

pub returns : goal.returns
returns c = one_string
