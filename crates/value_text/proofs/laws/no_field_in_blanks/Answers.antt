use Rattle.value_text.proofs.Blanks.{no_field, all_blank}
use Rattle.value_text.proofs.laws.no_field_in_blanks.Goals as goal

pub returns : goal.returns
returns c = λ at text. (all_blank at text, no_field at text)
