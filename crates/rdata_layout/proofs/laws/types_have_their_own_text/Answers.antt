use Rattle.rdata_layout.proofs.Own.{own_text}
use Rattle.rdata_layout.proofs.laws.types_have_their_own_text.Goals as goal

pub returns : goal.returns
returns c = own_text
