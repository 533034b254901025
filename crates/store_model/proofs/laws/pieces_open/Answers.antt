use Rattle.store_model.proofs.Weakening as weakening
use Rattle.store_model.proofs.laws.pieces_open.Goals as goal

pub returns : goal.returns
returns g c = weakening.pieces_open g.D.Disk.reading
