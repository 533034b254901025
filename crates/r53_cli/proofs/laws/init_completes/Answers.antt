use Rattle.r53_cli.proofs.Completing.{makes}
use Rattle.r53_cli.proofs.laws.init_completes.Goals as goal

pub returns : goal.returns
returns g c = makes g.D.Disk.reading g.D.Disk.images g.D.Disk.moment g.D.Disk.images_since
