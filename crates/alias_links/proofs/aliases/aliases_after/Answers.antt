use Rattle.std.proofs.Common.{◌∙◌, ap, sym, subst, List}
use Rattle.record_set.specs.declared.sets.RecordSet.{RecordSet}
use Rattle.zone_table.specs.Changes.{with_all}
use Rattle.zone_table.specs.Sets.{IsRising}
use Rattle.alias_links.specs.After.{sets_in}
use Rattle.alias_links.specs.Aliases.{aliases_of, stays}
use Rattle.alias_links.proofs.Aliased.{aliases_are, filter_rises}
use Rattle.alias_links.proofs.Held.{sets_rise}
use Rattle.alias_links.proofs.aliases.aliases_after.Goals as goal

pub place_aliases-requires : goal.place_aliases-requires
place_aliases-requires c =
    let zones = c.args.zones.now.zones in
    subst IsRising (sym c.in_ok-aliases.ensures)
    (filter_rises (stays c.args.remove.now) (sets_in zones c.args.zone)
    (sets_rise zones c.well_formed-2.ensures c.args.zone))

pub returns : goal.returns
returns c =
    let zones = c.args.zones.now.zones in
    c.in_ok-place_aliases.ensures
    ∙ (ap (λ (l : List RecordSet). with_all (aliases_of c.args.add.now) l) c.in_ok-aliases.ensures
    ∙ aliases_are (sets_in zones c.args.zone) c.args.remove.now c.args.add.now c.requires
    (sets_rise zones c.well_formed-2.ensures c.args.zone))
