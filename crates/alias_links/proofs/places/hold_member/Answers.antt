use Rattle.std.proofs.Common.{◌+◌}
use Rattle.alias_links.proofs.Held.{loaded, names}
use Rattle.alias_links.proofs.places.hold_member.Goals as goal

pub unreachable-requires : goal.unreachable-requires
unreachable-requires c =
    let zones = c.args.zones.now.zones in
    let g = c.args.group in
    let at = c.member-set.ensures in
    c.if-not-load.ensures.0 at.slot.0
    (names zones c.member-set.result g.zone (g.start + c.args.i) at.zone at.slot)

pub returns-clause-held : goal.returns-clause-held
returns-clause-held c =
    let zones = c.args.zones.now.zones in
    let g = c.args.group in
    let at = c.member-set.ensures in
    let found = c.if-not-load.ensures in
    loaded zones c.member-set.result g.zone (g.start + c.args.i) at.zone at.slot
    c.well_formed-2.ensures c.load.new.into found.0 found.1 found.2
