use Rattle.journal_store.proofs.Keeping.{append_keeps}
use Rattle.journal_store.proofs.laws.append_keeps_store.Goals as goal

pub returns : goal.returns
returns g c = λ result n s es entry a_old a_new b_old b_new run.
    let D = g.D.Disk in
    append_keeps D.reading D.images D.moment D.images_since g.met.D.Disk.counts_now result n s es
    entry a_old a_new b_old b_new run
