use Rattle.health_planning.proofs.Seeing.{seen_it}
use Rattle.health_planning.proofs.building.seen_of.Goals as goal

pub returns-in-Endpoint-clause-exact : goal.returns-in-Endpoint-clause-exact
returns-in-Endpoint-clause-exact c old reports ids id knows stands follows =
    seen_it ids c.args.seen.now c.args.at id _ c.checkers_of.result c.requires.within
    c.checkers_of.ensures.kept c.checkers_of.ensures.new old reports knows stands c.args.check.now c.in-Endpoint.is follows
