use Rattle.alias_links.specs.After.{sets_in}
use Rattle.alias_links.proofs.Changing.{is_change}
use Rattle.alias_links.proofs.Held.{sets_rise}
use Rattle.alias_links.proofs.Kept.{missing}
use Rattle.alias_links.proofs.missing.missing_after.Goals as goal

pub missing_kept-kept-requires : goal.missing_kept-kept-requires
missing_kept-kept-requires c =
    is_change c.args.zones.now.zones c.args.zone c.args.remove.now c.args.add.now c.requires

pub missing_added-added-requires : goal.missing_added-added-requires
missing_added-added-requires c =
    is_change c.args.zones.now.zones c.args.zone c.args.remove.now c.args.add.now c.requires

pub returns : goal.returns
returns c =
    let zones = c.args.zones.now.zones in
    missing (sets_in zones c.args.zone) c.args.remove.now c.args.add.now
    (is_change zones c.args.zone c.args.remove.now c.args.add.now c.requires)
    (sets_rise zones c.well_formed-2.ensures c.args.zone) c.missing_kept-kept.result
    c.missing_added-added.result c.lesser.result c.missing_kept-kept.ensures
    c.missing_added-added.ensures c.lesser.ensures
