use Rattle.r53_cli.proofs.Completing.{runs}
use Rattle.r53_cli.proofs.laws.run_completes.Goals as goal

pub returns : goal.returns
returns g c = runs g.D.Disk.reading g.D.Disk.images g.D.Disk.moment g.D.Disk.images_since c.no_store_or_beginning.ensures
