use Rattle.journal_store.proofs.Keeping.{piece_keeps}
use Rattle.journal_store.proofs.laws.piece_keeps_store.Goals as goal

pub returns : goal.returns
returns g c = λ v p n s es since a_old a_new b_old b_new run.
    let D = g.D.Disk in
    piece_keeps D.reading D.images D.moment D.images_since g.met.D.Disk.counts_now v p n s es since
    a_old a_new b_old b_new run
