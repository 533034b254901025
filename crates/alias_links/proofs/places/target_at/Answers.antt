use Rattle.alias_links.proofs.Held.{told}
use Rattle.alias_links.proofs.places.target_at.Goals as goal

pub returns : goal.returns
returns c =
    let at = c.in-Some.ensures in
    told c.args.zones.now.zones c.in-Some.set c.args.zone c.args.i at.0 at.1
    c.well_formed-2.ensures c.target.result c.target.ensures
