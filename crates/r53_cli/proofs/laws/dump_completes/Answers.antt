use Rattle.r53_cli.proofs.Completing.{dumps}
use Rattle.r53_cli.proofs.laws.dump_completes.Goals as goal

pub returns : goal.returns
returns g c = dumps g.D.Disk.reading g.D.Disk.images g.D.Disk.moment g.D.Disk.images_since
