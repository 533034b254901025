use Rattle.store_model.proofs.Weakening as weakening
use Rattle.store_model.proofs.laws.appends_open.Goals as goal

pub returns : goal.returns
returns g c = weakening.appends_open g.D.Disk.reading
