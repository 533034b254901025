use Rattle.collection_commands.proofs.Named.{all_zones, at_first, zone_more}
use Rattle.collection_commands.proofs.naming.used_by.Goals as goal

pub loop-zone-init : goal.loop-zone-init
loop-zone-init c =
    at_first c.args.zones.now.zones c.zones_follow.ensures c.well_formed-2.ensures
    c.new-used.result.items c.new-used.ensures.items

pub loop-zone-preserved : goal.loop-zone-preserved
loop-zone-preserved c =
    zone_more c.args.zones.now.zones c.zones_follow.ensures c.well_formed-2.ensures
    c.loop-zone.last c.loop-zone.used.items c.loop-zone.invariant c.in-Some.zone c.in-Some.ensures
    c.add_all.new.used.items c.in_ok-add_all.ensures

pub returns : goal.returns
returns c =
    all_zones c.args.zones.now.zones c.zones_follow.ensures c.well_formed-2.ensures
    c.loop-zone.last c.loop-zone.used.items c.loop-zone.invariant c.in_default.ensures
