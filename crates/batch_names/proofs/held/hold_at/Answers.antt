use Rattle.zone_table.proofs.Holding.{held_there, named}
use Rattle.batch_names.proofs.held.hold_at.Goals as goal

pub unreachable-requires : goal.unreachable-requires
unreachable-requires c =
    let at = c.in-Some.ensures in
    c.if-not-load.ensures.0 at.1.0
    (named c.args.zones.now.zones c.well_formed-2.ensures c.args.zone c.args.place c.in-Some.set
    at.0
    at.1)

pub returns : goal.returns
returns c =
    let at = c.in-Some.ensures in
    held_there c.args.zones.now.zones c.well_formed-2.ensures c.args.zone c.args.place c.in-Some.set
    at.0 at.1 c.load.new.into c.if-not-load.ensures
