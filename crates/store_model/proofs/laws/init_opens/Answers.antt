use Rattle.store_model.proofs.Standing as standing
use Rattle.store_model.proofs.laws.init_opens.Goals as goal

pub returns : goal.returns
returns g c = standing.init_opens c.empty_opens.ensures g.D.Disk.reading g.D.Disk.images
