use Rattle.journal_store.proofs.Keeping.{init_keeps}
use Rattle.journal_store.proofs.laws.init_keeps_store.Goals as goal

pub returns : goal.returns
returns g c = λ result x y a_old a_new b_old b_new tx ty gives leaves same store.
    let D = g.D.Disk in
    init_keeps D.reading D.images D.moment D.images_since g.met.D.Disk.is_image
    result x y a_old a_new b_old b_new tx ty gives leaves same store
