use Rattle.std.proofs.Common.{get_or, arith}
use Rattle.zone_finding.proofs.Looked.{copies_more, number_at}
use Rattle.zone_finding.proofs.looking.copies.Goals as goal

pub loop-slot-preserved : goal.loop-slot-preserved
loop-slot-preserved c =
    let order = c.args.order.now in
    let i = c.loop-slot.slot-index in
    let test = c.loop-slot-test.true in
    copies_more c.args.store.now.slots c.args.zone order c.requires i (get_or order i 0)
    (number_at order i (omega (arith, test)))
    c.loop-slot.copies.items c.push.new.self.items c.in_ok-read.field-0 c.in_ok-read.ensures
    c.loop-slot.invariant c.in_ok-push.ensures.items
