use Rattle.zone_lookup.proofs.Finding.{served_sets}
use Rattle.zone_lookup.proofs.hosting.known_few.Goals as goal

pub returns : goal.returns
returns c =
    let sets = served_sets c.args.zones.now.zones c.well_formed-2.ensures c.requires.served
    c.args.zone c.args.apex.now c.requires.there in
    record { some = sets.0; few = sets.1 }
