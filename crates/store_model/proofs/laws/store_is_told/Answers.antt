use Rattle.store_model.proofs.Standing as standing
use Rattle.store_model.proofs.laws.store_is_told.Goals as goal

pub returns : goal.returns
returns g c =
    standing.store_is_told g.D.Disk.reading g.D.Disk.images g.met.D.Disk.is_image
    c.no_store_or_config.ensures
