use Rattle.std.proofs.Common.{◌∙◌, ap, sym}
use Rattle.zone_list.specs.Sums.{sums_of}
use Rattle.zone_list.proofs.Among.{among_at}
use Rattle.zone_list.specs.Kept.{zones_in}
use Rattle.zone_list.specs.Zones.{placed_in}
use Rattle.zone_finding.proofs.Naming.{it_is, its_sets, none_is, stands_here}
use Rattle.zone_finding.proofs.looking.sums_in.Goals as goal

pub returns-in-Some : goal.returns-in-Some
returns-in-Some c =
    let slots = c.args.store.now.slots in
    let list = c.args.list.now in
    let i = c.in-Some.place in
    let k = c.index-list-place.result in
    let it = it_is list c.args.zone i c.in-Some.ensures k c.index-list-place.is in
    let there = among_at list i k it.1 in
    c.sums.ensures ∙ ((stands_here slots list c.requires k there).counted
    ∙ ap sums_of (sym (its_sets slots list c.requires k there)
    ∙ ap (placed_in (zones_in slots list)) it.2))

pub returns-in-None : goal.returns-in-None
returns-in-None c =
    c.no_sums.ensures
    ∙ ap sums_of (sym (none_is c.args.store.now.slots c.args.list.now c.requires c.args.zone c.in-None.ensures).1)
