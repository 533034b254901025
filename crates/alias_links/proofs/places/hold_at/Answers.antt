use Rattle.alias_links.proofs.Held.{loaded, names}
use Rattle.alias_links.proofs.places.hold_at.Goals as goal

pub unreachable-requires-then-not-load : goal.unreachable-requires-then-not-load
unreachable-requires-then-not-load c =
    let zones = c.args.zones.now.zones in
    let at = c.in-Some.ensures in
    c.if-not-load.ensures.0 at.1.0 (names zones c.in-Some.set c.args.zone c.args.i at.0 at.1)

pub returns-clause-held : goal.returns-clause-held
returns-clause-held c =
    let zones = c.args.zones.now.zones in
    let at = c.in-Some.ensures in
    let found = c.if-not-load.ensures in
    loaded zones c.in-Some.set c.args.zone c.args.i at.0 at.1 c.well_formed-2.ensures
    c.load.new.into found.0 found.1 found.2
