use Rattle.zone_commands.proofs.Named.{is_told}
use Rattle.zone_commands.proofs.opening.has_zone.Goals as goal

pub returns-in-Some-apex : goal.returns-in-Some-apex
returns-in-Some-apex c =
    is_told c.args.zones.now.zones c.args.name.now c.in-Some.zone c.in-Some.ensures
    c.in-Some-apex.apex c.in-Some-apex.ensures c.one_apex.ensures c.well_formed-2.ensures
    c.zones_are_found.ensures c.is_same.result c.is_same.ensures
