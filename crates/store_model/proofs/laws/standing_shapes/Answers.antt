use Rattle.store_model.proofs.Standing as standing
use Rattle.store_model.proofs.laws.standing_shapes.Goals as goal

pub returns : goal.returns
returns g c =
    standing.standing_shapes g.D.Disk.reading g.D.Disk.images g.met.D.Disk.is_image
