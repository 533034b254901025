use Rattle.r53_cli.proofs.Completing.{drills}
use Rattle.r53_cli.proofs.laws.drill_completes.Goals as goal

pub returns : goal.returns
returns g c = drills g.D.Disk.reading g.D.Disk.images g.D.Disk.moment g.D.Disk.images_since
