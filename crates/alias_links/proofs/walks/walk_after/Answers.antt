use Rattle.std.proofs.Common.{◌∙◌, sym, subst}
use Rattle.zone_table.specs.Sets.{IsRising}
use Rattle.alias_links.specs.After.{changed_in, sets_in}
use Rattle.alias_links.specs.Aliases.{is_alias_set}
use Rattle.alias_links.proofs.Aliased.{filter_rises}
use Rattle.alias_links.proofs.Changing.{changed_rises, is_change}
use Rattle.alias_links.proofs.Held.{sets_rise}
use Rattle.alias_links.proofs.Kept.{deep_told}
use Rattle.alias_links.proofs.walks.walk_after.Goals as goal

pub aliases_after-requires : goal.aliases_after-requires
aliases_after-requires c =
    is_change c.args.zones.now.zones c.args.zone c.args.remove.now c.args.add.now c.requires

pub first_walk-requires : goal.first_walk-requires
first_walk-requires c =
    let zones = c.args.zones.now.zones in
    subst IsRising (sym (c.as_slice.ensures.value ∙ c.in_ok-aliases.ensures))
    (filter_rises is_alias_set
    (changed_in zones c.args.zone c.args.remove.now c.args.add.now)
    (changed_rises (sets_in zones c.args.zone) c.args.remove.now c.args.add.now
    (sets_rise zones c.well_formed-2.ensures c.args.zone)))

pub returns : goal.returns
returns c =
    let zones = c.args.zones.now.zones in
    deep_told (changed_in zones c.args.zone c.args.remove.now c.args.add.now) c.as_slice.result.now
    (changed_rises (sets_in zones c.args.zone) c.args.remove.now c.args.add.now
    (sets_rise zones c.well_formed-2.ensures c.args.zone))
    (c.as_slice.ensures.value ∙ c.in_ok-aliases.ensures) c.first_walk.result c.first_walk.ensures
