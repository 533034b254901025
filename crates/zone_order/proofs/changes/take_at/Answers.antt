use Rattle.std.proofs.Common.{None, subst, sym}
use Rattle.set_store.specs.Slotted.{IsTakenAt}
use Rattle.set_store.proofs.ListsOfZoneModel.{all_found}
use Rattle.zone_order.specs.Orders.{HasSet, IsOrderBy, slotted_by, set_in}
use Rattle.zone_order.proofs.Orders.{taken_is, taken_order}
use Rattle.zone_order.proofs.Slots.{anothers, its_kept, kept_there, nones, stay, updated}
use Rattle.zone_order.proofs.changes.take_at.Goals as goal

pub take-requires : goal.take-requires
take-requires c =
    let zone = c.args.zone in
    let before = c.args.store.now.slots in
    let k = c.remove_slot-slot.result in
    let has = all_found (HasSet
    (set_in before zone)) c.args.order.now.items c.args.place k c.requires.order.present
    c.remove_slot-slot.ensures.slot in
    record { taken = (record { zone = zone; set = has.0 }, its_kept before zone k has.0 has.1) }

pub returns-clause-order : goal.returns-clause-order
returns-clause-order c =
    let zone = c.args.zone in
    let before = c.args.store.now.slots in
    let after = c.take.new.self.slots in
    let k = c.remove_slot-slot.result in
    let updates = updated before after zone k c.take.ensures.others None
    (nones after zone k c.take.ensures.gone) in
    subst (λ xs. IsOrderBy (set_in after zone) xs) (sym c.remove_slot-slot.ensures.items)
    (taken_order (set_in before zone)
    (set_in after zone) c.args.order.now.items c.args.place k c.requires.order
    c.remove_slot-slot.ensures.slot updates)

pub returns-clause-taken : goal.returns-clause-taken
returns-clause-taken c =
    let zone = c.args.zone in
    let before = c.args.store.now.slots in
    let after = c.take.new.self.slots in
    let k = c.remove_slot-slot.result in
    let updates = updated before after zone k c.take.ensures.others None
    (nones after zone k c.take.ensures.gone) in
    subst (λ xs. IsTakenAt (slotted_by (set_in before zone) c.args.order.now.items) c.args.place k
    (slotted_by (set_in after zone) xs)) (sym c.remove_slot-slot.ensures.items)
    (taken_is (set_in before zone) (set_in after zone) c.args.order.now.items c.args.place k c.requires.order
    c.remove_slot-slot.ensures.slot updates)

pub returns-clause-others : goal.returns-clause-others
returns-clause-others c =
    let zone = c.args.zone in
    let before = c.args.store.now.slots in
    let after = c.take.new.self.slots in
    let k = c.remove_slot-slot.result in
    let has = all_found (HasSet
    (set_in before zone)) c.args.order.now.items c.args.place k c.requires.order.present
    c.remove_slot-slot.ensures.slot in
    stay before after zone k c.take.ensures.others
    (λ other ne. anothers before other k (record { zone = zone; set = has.0 })
    (its_kept before zone k has.0 has.1)
    (λ e. ne (sym e)))
    (λ other ne. nones after other k c.take.ensures.gone)

pub returns-clause-cells : goal.returns-clause-cells
returns-clause-cells c was is =
    c.take.ensures.cells (record { zone = c.args.zone; set = was.set })
    (kept_there c.args.store.now.slots c.args.zone c.args.order.now.items c.requires.order.present
    c.args.place c.remove_slot-slot.result c.remove_slot-slot.ensures.slot was is)
