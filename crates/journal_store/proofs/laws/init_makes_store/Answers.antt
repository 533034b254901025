use Rattle.journal_store.proofs.Keeping.{made}
use Rattle.journal_store.proofs.laws.init_makes_store.Goals as goal

pub returns : goal.returns
returns g c = λ x y a b gives. made g.D.Disk.reading g.D.Disk.images x y a b gives
