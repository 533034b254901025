use Rattle.std.proofs.Common.{Some, sym}
use Rattle.set_store.proofs.ListsOfZoneModel.{all_found}
use Rattle.zone_order.specs.Orders.{HasSet, set_in}
use Rattle.zone_order.proofs.Replaced.{replaced, replaced_order}
use Rattle.zone_order.proofs.Slots.{anothers, its_kept, kept_there, its_own, stay, updated}
use Rattle.zone_order.proofs.changes.replace_at.Goals as goal

pub replace-requires-clause-taken : goal.replace-requires-clause-taken
replace-requires-clause-taken c =
    let zone = c.args.zone in
    let before = c.args.store.now.slots in
    let k = c.slot_at-slot.result in
    let has = all_found (HasSet (set_in before zone)) c.args.order.now c.args.place k c.requires.order.present
    c.slot_at-slot.ensures in
    (record { zone = zone; set = has.0 }, its_kept before zone k has.0 has.1)

pub returns-clause-order : goal.returns-clause-order
returns-clause-order c =
    let zone = c.args.zone in
    let before = c.args.store.now.slots in
    let after = c.replace.new.self.slots in
    let k = c.slot_at-slot.result in
    let has = all_found (HasSet (set_in before zone)) c.args.order.now c.args.place k c.requires.order.present
    c.slot_at-slot.ensures in
    let it = c.requires.spelling in
    let updates = updated before after zone k c.replace.ensures.others (Some it.0)
    (its_own after zone k it.0
    (c.replace.ensures.here it.0 (record { zone = zone; set = has.0 }) it.1
    (its_kept before zone k has.0 has.1))) in
    replaced_order (set_in before zone)
    (set_in after zone) c.args.order.now c.args.place k it.0 c.requires.order
    c.slot_at-slot.ensures updates (c.requires.there it.0 it.1)

pub returns-clause-replaced : goal.returns-clause-replaced
returns-clause-replaced c it spells =
    let zone = c.args.zone in
    let before = c.args.store.now.slots in
    let after = c.replace.new.self.slots in
    let k = c.slot_at-slot.result in
    let has = all_found (HasSet (set_in before zone)) c.args.order.now c.args.place k c.requires.order.present
    c.slot_at-slot.ensures in
    let updates = updated before after zone k c.replace.ensures.others (Some it)
    (its_own after zone k it
    (c.replace.ensures.here it (record { zone = zone; set = has.0 }) spells
    (its_kept before zone k has.0 has.1))) in
    replaced (set_in before zone) (set_in after zone) c.args.order.now c.args.place k it c.requires.order
    c.slot_at-slot.ensures updates (c.requires.there it spells)

pub returns-clause-others : goal.returns-clause-others
returns-clause-others c =
    let zone = c.args.zone in
    let before = c.args.store.now.slots in
    let after = c.replace.new.self.slots in
    let k = c.slot_at-slot.result in
    let has = all_found (HasSet (set_in before zone)) c.args.order.now c.args.place k c.requires.order.present
    c.slot_at-slot.ensures in
    let it = c.requires.spelling in
    let kept = its_kept before zone k has.0 has.1 in
    stay before after zone k c.replace.ensures.others
    (λ other ne. anothers before other k (record { zone = zone; set = has.0 }) kept (λ e. ne (sym e)))
    (λ other ne. anothers after other k (record { zone = zone; set = it.0 })
    (c.replace.ensures.here it.0 (record { zone = zone; set = has.0 }) it.1 kept) (λ e. ne (sym e)))

pub returns-clause-cells : goal.returns-clause-cells
returns-clause-cells c was is =
    c.replace.ensures.cells (record { zone = c.args.zone; set = was.set })
    (kept_there c.args.store.now.slots c.args.zone c.args.order.now c.requires.order.present
    c.args.place c.slot_at-slot.result c.slot_at-slot.ensures was is)
