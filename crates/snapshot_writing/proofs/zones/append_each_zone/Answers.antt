use Rattle.snapshot_writing.proofs.Gathered.{all_zones, at_first, zone_more}
use Rattle.snapshot_writing.proofs.zones.append_each_zone.Goals as goal

pub loop-zone-init : goal.loop-zone-init
loop-zone-init c =
    at_first c.args.into.now.items c.args.zones.now.zones c.zones_follow.ensures
    c.well_formed-2.ensures

pub loop-zone-preserved : goal.loop-zone-preserved
loop-zone-preserved c =
    let made = c.in_ok-append_zone.ensures in
    zone_more c.args.into.now.items c.args.zones.now.zones c.zones_follow.ensures
    c.well_formed-2.ensures c.loop-zone.last c.loop-zone.into.items c.loop-zone.invariant
    c.in-Some.zone c.in-Some.ensures made.0 made.1 c.append_zone.new.into.items made.2

pub returns : goal.returns
returns c =
    all_zones c.args.into.now.items c.args.zones.now.zones c.zones_follow.ensures
    c.well_formed-2.ensures c.loop-zone.last c.loop-zone.into.items c.loop-zone.invariant
    c.in_default.ensures
