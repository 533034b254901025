use Rattle.std.proofs.Common.{◌∙◌, List, ℕ, ap, length, sym}
use Rattle.zone_list.specs.Kept.{zones_in}
use Rattle.zone_list.proofs.Listing.{none_placed}
use Rattle.zone_finding.proofs.Naming.{as_many_sets, inside_of, one_named}
use Rattle.zone_table.proofs.needs.count_sets.Goals as goal

pub returns-in-Some : goal.returns-in-Some
returns-in-Some c slots =
    let list = c.args.list.now in
    ap (λ (order : List ℕ). length order) c.order.ensures
    ∙ as_many_sets slots list c.args.zone c.in-Some.place c.requires c.in-Some.ensures
    c.index-list-place.result (inside_of list c.args.zone c.in-Some.place c.in-Some.ensures)
    c.index-list-place.is

pub returns-in-None : goal.returns-in-None
returns-in-None c slots =
    let list = c.args.list.now in
    sym (ap length (none_placed (zones_in slots list) c.args.zone
    (λ is. c.in-None.ensures (one_named slots list c.args.zone is))))
