use Rattle.whole_writing.proofs.Pieces.{first_fails}
use Rattle.whole_writing.proofs.laws.first_piece_fails.Goals as goal

pub returns : goal.returns
returns c = first_fails
