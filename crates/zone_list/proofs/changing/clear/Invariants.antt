use Rattle.std.proofs.Common.{◌≡◌, ◌+◌, length}
use Rattle.zone_changes.specs.Orders.{IsOrder, OthersStay}
use Rattle.zone_list.proofs.changing.clear.Given as goal

abbrev pub invariant-loop-order : goal.invariant-loop-order
invariant-loop-order l = record {
  order : IsOrder l.store.slots l.zone l.order.items;
  others : OthersStay l.zone l.fn.store.slots l.store.slots;
  sets : l.store.free + length l.order.items ≡ l.fn.store.free + length l.fn.order.items;
  slots_stay : length l.store.slots ≡ length l.fn.store.slots;
}

abbrev pub decreases-loop-order : goal.decreases-loop-order
decreases-loop-order l = length l.order.items
