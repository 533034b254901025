use Rattle.std.proofs.Common.{arith}
use Rattle.health_planning.proofs.ListedOnce.{slot_below}
use Rattle.health_planning.proofs.listing.list_known.Goals as goal

pub returns-then-set-len-clause-here : goal.returns-then-set-len-clause-here
returns-then-set-len-clause-here c named names watched =
    let b = slot_below c.args.zones.now.zones c.args.zones.now.slots c.args.set named c.slots_within.ensures.within names in
    let slots = c.requires.slots in
    absurd (omega arith)
