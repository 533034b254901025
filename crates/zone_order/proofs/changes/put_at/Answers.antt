use Rattle.std.proofs.Common.{Some, subst, sym}
use Rattle.set_store.specs.Slotted.{IsPut}
use Rattle.zone_order.specs.Orders.{IsOrderBy, slotted_by, set_in}
use Rattle.zone_order.proofs.Orders.{put_is, put_order}
use Rattle.zone_order.proofs.Slots.{its_own, nones, updated}
use Rattle.zone_order.proofs.changes.put_at.Goals as goal

pub returns-clause-order : goal.returns-clause-order
returns-clause-order c =
    let zone = c.args.zone in
    let before = c.args.store.now.slots in
    let after = c.put-slot.new.self.slots in
    let k = c.put-slot.result in
    let it = c.requires.spelling in
    let updates = updated before after zone k c.put-slot.ensures.others (Some it.0)
    (its_own after zone k it.0 (c.put-slot.ensures.here it.0 it.1)) in
    subst (λ xs. IsOrderBy (set_in after zone) xs) (sym c.insert_slot.ensures.items)
    (put_order c.placed_rise.ensures (set_in before zone)
    (set_in after zone) c.args.order.now.items c.args.place k it.0
    c.requires.order (nones before zone k c.put-slot.ensures.vacant) updates c.put-slot.type_inv
    (c.requires.absent it.0 it.1))

pub returns-clause-put : goal.returns-clause-put
returns-clause-put c it spells =
    let zone = c.args.zone in
    let before = c.args.store.now.slots in
    let after = c.put-slot.new.self.slots in
    let k = c.put-slot.result in
    let updates = updated before after zone k c.put-slot.ensures.others (Some it)
    (its_own after zone k it (c.put-slot.ensures.here it spells)) in
    subst (λ xs. IsPut (slotted_by (set_in before zone) c.args.order.now.items) (record { slot = k; set = it })
    (slotted_by (set_in after zone) xs)) (sym c.insert_slot.ensures.items)
    (put_is c.placed_rise.ensures (set_in before zone)
    (set_in after zone) c.args.order.now.items c.args.place k it
    c.requires.order (nones before zone k c.put-slot.ensures.vacant) updates c.put-slot.type_inv
    (c.requires.absent it spells))
