use Rattle.text_meanings.proofs.Joined.{text_joined}
use Rattle.text_meanings.proofs.laws.written_text_is_joined.Goals as goal

pub returns : goal.returns
returns c = text_joined
