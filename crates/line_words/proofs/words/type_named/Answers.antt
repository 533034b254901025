use Rattle.line_words.proofs.Types.{type_found}
use Rattle.line_words.proofs.words.type_named.Goals as goal

pub returns : goal.returns
returns c = type_found c.args.text.now c.from_text.result c.from_text.ensures.some c.from_text.ensures.none
