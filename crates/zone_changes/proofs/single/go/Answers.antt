use Rattle.zone_order.specs.Orders.{slotted_of}
use Rattle.zone_changes.proofs.Coming.{goes_by_key}
use Rattle.zone_changes.proofs.Cells.{taken_cells}
use Rattle.zone_changes.proofs.Counted.{taken_sums}
use Rattle.zone_changes.proofs.single.go.Goals as goal

pub returns-clause-goes : goal.returns-clause-goes
returns-clause-goes c =
    goes_by_key (slotted_of c.args.store.now.slots c.args.zone c.args.order.now.items) c.args.key.now
    c.in-Ok.place
    c.take_at.result _ c.in-Ok.ensures c.take_at.ensures.taken

pub returns-clause-cells : goal.returns-clause-cells
returns-clause-cells c =
    let taken = c.take_at.ensures.taken in
    taken_cells (slotted_of c.args.store.now.slots c.args.zone c.args.order.now.items) c.in-Ok.place
    c.take_at.result _ taken c.args.store.now.cells c.take_at.new.store.cells
    (c.take_at.ensures.cells (record { slot = c.take_at.result; set = taken.set }) taken.there)

pub returns-clause-sums : goal.returns-clause-sums
returns-clause-sums c =
    let taken = c.take_at.ensures.taken in
    taken_sums (slotted_of c.args.store.now.slots c.args.zone c.args.order.now.items) c.in-Ok.place
    c.take_at.result _ taken c.args.sums.now c.without_at.result c.requires.sums
    c.without_at.ensures.small
    (c.without_at.ensures.without (record { slot = c.take_at.result; set = taken.set }) taken.there)
