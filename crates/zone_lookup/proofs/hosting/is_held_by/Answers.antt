use Rattle.zone_lookup.proofs.Finding.{is_inside, none_so, same_number}
use Rattle.zone_lookup.proofs.hosting.is_held_by.Goals as goal

pub returns-in-Some-clause-same : goal.returns-in-Some-clause-same
returns-in-Some-clause-same c = λ apex.
    same_number c.args.zones.now.zones c.well_formed-2.ensures c.zones_are_longest.ensures
    c.args.name.now c.args.zone apex c.in-Some.found c.in-Some.ensures

pub returns-in-Some-clause-inside : goal.returns-in-Some-clause-inside
returns-in-Some-clause-inside c = λ apex there same.
    is_inside c.args.zones.now.zones c.well_formed-2.ensures c.zones_are_longest.ensures
    c.args.name.now c.args.zone apex c.in-Some.found c.in-Some.ensures there same

pub returns-in-None-clause-same : goal.returns-in-None-clause-same
returns-in-None-clause-same c = λ apex.
    none_so c.args.zones.now.zones c.well_formed-2.ensures c.zones_are_longest.ensures
    c.args.name.now c.args.zone apex c.in-None.ensures
