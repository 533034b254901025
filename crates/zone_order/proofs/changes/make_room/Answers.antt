use Rattle.std.proofs.Common.{◌-◌, ap, ◌∙◌}
use Rattle.zone_order.specs.Orders.{set_in}
use Rattle.zone_order.proofs.Vacant.{as_wanted, both, enough, more_slots, no_fewer, no_less}
use Rattle.zone_order.proofs.Vacant.{ordered_still, vacant_behind}
use Rattle.zone_order.proofs.changes.make_room.Goals as goal

pub returns-clause-stay : goal.returns-clause-stay
returns-clause-stay c zone slot =
    let more = c.reserve.new.self.free - c.args.store.now.free in
    ap (λ slots. set_in slots zone slot) c.reserve.ensures.slots
    ∙ vacant_behind c.args.store.now.slots more zone slot

pub returns-clause-orders : goal.returns-clause-orders
returns-clause-orders c zone order is =
    let more = c.reserve.new.self.free - c.args.store.now.free in
    ordered_still c.args.store.now.slots _ zone order
    (λ k. ap (λ slots. set_in slots zone k) c.reserve.ensures.slots
    ∙ vacant_behind c.args.store.now.slots more zone k) is

pub returns-clause-slots : goal.returns-clause-slots
returns-clause-slots c =
    more_slots c.args.store.now.slots _ c.args.store.now.free c.reserve.new.self.free c.reserve.ensures.slots
    (no_less c.args.store.now.free c.reserve.new.self.free c.args.slots c.reserve.result c.reserve.ensures.free)

pub returns-clause-free : goal.returns-clause-free
returns-clause-free c =
    no_less c.args.store.now.free c.reserve.new.self.free c.args.slots c.reserve.result c.reserve.ensures.free

pub returns-clause-cells : goal.returns-clause-cells
returns-clause-cells c =
    no_fewer c.args.store.now.cells c.reserve.new.self.cells c.args.cells c.reserve.result c.reserve.ensures.cells

pub returns-clause-room : goal.returns-clause-room
returns-clause-room c =
    both _ _ c.reserve.result
    (enough c.args.store.now.free c.reserve.new.self.free c.args.slots c.reserve.result c.reserve.ensures.free)
    (as_wanted c.args.store.now.cells c.reserve.new.self.cells c.args.cells c.reserve.result c.reserve.ensures.cells)
