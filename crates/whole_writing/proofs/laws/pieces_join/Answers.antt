use Rattle.whole_writing.proofs.Pieces.{joined}
use Rattle.whole_writing.proofs.laws.pieces_join.Goals as goal

pub returns : goal.returns
returns c = joined
