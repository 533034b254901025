use Rattle.std.proofs.Common.{List, ℕ, subst, sym}
use Rattle.zone_finding.specs.Stored.{IsOrderIn}
use Rattle.zone_finding.proofs.Naming.{inside_of, none_is, order_is}
use Rattle.zone_finding.proofs.looking.order_near.Goals as goal

pub returns-in-Some : goal.returns-in-Some
returns-in-Some c =
    let slots = c.args.store.now.slots in
    let list = c.args.list.now in
    let i = c.in-Some.place in
    subst (λ (order : List ℕ). IsOrderIn slots list c.args.zone order) (sym c.order.ensures)
    (order_is slots list c.requires c.args.zone i c.in-Some.ensures c.index-list-place.result
    (inside_of list c.args.zone i c.in-Some.ensures) c.index-list-place.is)

pub returns-in-None : goal.returns-in-None
returns-in-None c = none_is c.args.store.now.slots c.args.list.now c.requires c.args.zone c.in-None.ensures
