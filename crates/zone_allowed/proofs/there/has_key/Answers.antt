use Rattle.zone_allowed.proofs.Between.{between, told_between}
use Rattle.zone_allowed.proofs.there.has_key.Goals as goal

pub returns : goal.returns
returns c =
    let law = between c.args.zones.now.zones c.well_formed-2.ensures c.args.zone c.args.key.now
    c.next_from-from.result c.next_from-past.result c.next_from-from.ensures
    c.next_from-past.ensures in
    told_between c.is_same_ref.result c.is_same_ref.ensures law.0 law.1
