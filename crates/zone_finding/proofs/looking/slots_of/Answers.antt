use Rattle.std.proofs.Common.{◌∙◌}
use Rattle.zone_list.specs.Kept.{zones_in}
use Rattle.zone_finding.proofs.GroupSlots.{in_order, of_none, within_order}
use Rattle.zone_finding.proofs.looking.slots_of.Goals as goal

pub part_of-requires : goal.part_of-requires
part_of-requires c =
    let slots = c.args.store.now.slots in
    within_order slots (zones_in slots c.args.list.now) c.args.group c.in-Some.order.now
    c.in-Some.ensures.placed c.requires.within

pub returns-in-Some : goal.returns-in-Some
returns-in-Some c =
    let slots = c.args.store.now.slots in
    c.part_of.ensures
    ∙ in_order slots (zones_in slots c.args.list.now) c.args.group c.in-Some.order.now
    c.in-Some.ensures.placed

pub returns-in-None : goal.returns-in-None
returns-in-None c =
    of_none (zones_in c.args.store.now.slots c.args.list.now) c.args.group c.in-None.ensures.1
