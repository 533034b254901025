use Rattle.rdata_layout.proofs.Own.{own_number}
use Rattle.rdata_layout.proofs.laws.types_have_their_own_number.Goals as goal

pub returns : goal.returns
returns c = own_number
