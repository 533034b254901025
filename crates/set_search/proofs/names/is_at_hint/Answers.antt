use Rattle.set_search.proofs.Below.{exists_at}
use Rattle.set_search.proofs.names.is_at_hint.Goals as goal

pub returns-in-Some : goal.returns-in-Some
returns-in-Some g c is =
    exists_at (g.S.SetList.sets c.args.sets.now) c.args.name.now c.in-Some.place
    (c.is_below_at.ensures.0 is)
