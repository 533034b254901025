use Rattle.batch_names.proofs.Keys.{holds_it, names_it}
use Rattle.batch_names.proofs.keyed.hold_from.Goals as goal

pub unreachable-requires : goal.unreachable-requires
unreachable-requires c =
    let next = c.in-Some.ensures in
    c.if-not-load.ensures.0 next.1.2.0
    (names_it c.args.zones.now.zones c.well_formed-2.ensures c.args.zone c.args.key.now
    c.in-Some.set next)

pub returns : goal.returns
returns c =
    holds_it c.args.zones.now.zones c.well_formed-2.ensures c.args.zone c.args.key.now
    c.in-Some.set c.in-Some.ensures c.load.new.into c.if-not-load.ensures
