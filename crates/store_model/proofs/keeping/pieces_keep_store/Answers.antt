use Rattle.store_model.proofs.Kept as kept
use Rattle.store_model.proofs.keeping.pieces_keep_store.Goals as goal

pub returns : goal.returns
returns g c =
    let D = g.D.Disk in
    kept.pieces_keep_store D.images D.moment D.images_since g.met.D.Disk.counts_now
