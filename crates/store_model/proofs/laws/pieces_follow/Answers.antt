use Rattle.store_model.proofs.Following as following
use Rattle.store_model.proofs.laws.pieces_follow.Goals as goal

pub returns : goal.returns
returns g c = following.pieces_follow g.D.Disk.reading g.D.Disk.images g.D.Disk.moment
    g.D.Disk.images_since
