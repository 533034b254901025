use Rattle.store_model.proofs.Kept as kept
use Rattle.store_model.proofs.keeping.init_keeps_store.Goals as goal

pub returns : goal.returns
returns g c =
    let D = g.D.Disk in
    kept.init_keeps_store D.reading D.images D.moment D.images_since c.init_opens.ensures
    g.met.D.Disk.is_image
