use Rattle.journal_store.proofs.Keeping.{fewer}
use Rattle.journal_store.proofs.laws.open_keeps_store.Goals as goal

pub returns : goal.returns
returns g c = λ a_old a_new b_old b_new of_a of_b store.
    fewer g.D.Disk.reading g.D.Disk.images a_old a_new b_old b_new of_a.leaves of_b.leaves store
