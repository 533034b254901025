use Rattle.set_store.proofs.Beside.{told_within}
use Rattle.set_store.proofs.siblings.goes_on.Goals as goal

pub returns-then-offset-octets : goal.returns-then-offset-octets
returns-then-offset-octets c known holds =
    told_within known c.args.first.now c.part.result.now c.args.octets.now c.args.offset
    c.is_alike.result (c.requires.first known holds) c.if-offset-octets.true c.part.ensures
    c.is_alike.ensures
