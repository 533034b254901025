use Rattle.zone_lookup.proofs.Cutting.{none_below}
use Rattle.zone_lookup.proofs.cut.cut_above.Goals as goal

pub returns-then-not-may_have_cuts : goal.returns-then-not-may_have_cuts
returns-then-not-may_have_cuts c =
    none_below c.cuts_are_nearest.ensures c.args.zones.now.zones c.args.zone c.args.apex.now
    c.args.name.now
    (c.may_have_cuts.ensures c.if-not-may_have_cuts.true c.args.apex.now c.requires.there)
