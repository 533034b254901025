use Rattle.text_meanings.proofs.Told.{one_name}
use Rattle.text_meanings.proofs.laws.one_name_of_a_text.Goals as goal

pub returns : goal.returns
returns c = one_name
