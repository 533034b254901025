use Rattle.std.proofs.Common.{ap, ◌∙◌}
use Rattle.std.specs.Prelude.{is_some}
use Rattle.zone_order.specs.WatchRecord.{Watch}
use Rattle.zone_order.proofs.Slots.{kept_at, kept_there}
use Rattle.zone_changes.specs.Sums.{one_of}
use Rattle.zone_changes.proofs.sums.without_at.Goals as goal

pub size-requires : goal.size-requires
size-requires c =
    let it = kept_at c.args.store.now.slots c.args.zone c.args.order.now.items c.requires.order.present
    c.args.place c.slot_at-slot.result c.slot_at-slot.ensures in
    (record { zone = c.args.zone; set = it.0 }, it.1)

pub is_alias-requires : goal.is_alias-requires
is_alias-requires c =
    let it = kept_at c.args.store.now.slots c.args.zone c.args.order.now.items c.requires.order.present
    c.args.place c.slot_at-slot.result c.slot_at-slot.ensures in
    (record { zone = c.args.zone; set = it.0 }, it.1)

pub server_labels-requires : goal.server_labels-requires
server_labels-requires c =
    let it = kept_at c.args.store.now.slots c.args.zone c.args.order.now.items c.requires.order.present
    c.args.place c.slot_at-slot.result c.slot_at-slot.ensures in
    (record { zone = c.args.zone; set = it.0 }, it.1)

pub watch-requires : goal.watch-requires
watch-requires c =
    let it = kept_at c.args.store.now.slots c.args.zone c.args.order.now.items c.requires.order.present
    c.args.place c.slot_at-slot.result c.slot_at-slot.ensures in
    (record { zone = c.args.zone; set = it.0 }, it.1)

pub is_starred-requires : goal.is_starred-requires
is_starred-requires c =
    let it = kept_at c.args.store.now.slots c.args.zone c.args.order.now.items c.requires.order.present
    c.args.place c.slot_at-slot.result c.slot_at-slot.ensures in
    (record { zone = c.args.zone; set = it.0 }, it.1)

pub returns-clause-without : goal.returns-clause-without
returns-clause-without c = λ was is.
    let kept = kept_there c.args.store.now.slots c.args.zone c.args.order.now.items c.requires.order.present
    c.args.place c.slot_at-slot.result c.slot_at-slot.ensures was is in
    c.without.ensures.without was (c.size.ensures (record { zone = c.args.zone; set = was.set }) kept)
    (ap one_of (c.is_alias.ensures (record { zone = c.args.zone; set = was.set }) kept))
    (c.server_labels.ensures (record { zone = c.args.zone; set = was.set }) kept)
    (c.is_some.ensures ∙ ap (λ (w : Watch). is_some w.check) (c.watch.ensures (record { zone = c.args.zone; set = was.set }) kept))
    (ap one_of (c.is_starred.ensures (record { zone = c.args.zone; set = was.set }) kept))
