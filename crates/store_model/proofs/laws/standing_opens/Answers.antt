use Rattle.store_model.proofs.Standing as standing
use Rattle.store_model.proofs.laws.standing_opens.Goals as goal

pub returns : goal.returns
returns g c =
    standing.standing_opens g.D.Disk.reading g.D.Disk.images g.met.D.Disk.is_image
