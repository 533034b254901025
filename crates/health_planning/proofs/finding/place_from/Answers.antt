use Rattle.health_planning.proofs.Places.{stands_at}
use Rattle.health_planning.proofs.finding.place_from.Goals as goal

pub returns : goal.returns
returns c = stands_at c.args.ids.now c.args.id c.place_in.result c.place_in.ensures
