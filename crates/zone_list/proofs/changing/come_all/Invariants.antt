use Rattle.std.proofs.Common.{◌≡◌, ◌≤◌, ◌+◌, ◌++◌, List, length, drop, vec_len, vec_capacity}
use Rattle.zone_changes.specs.Sums.{sums_of}
use Rattle.zone_changes.specs.Slotted.{Slotted}
use Rattle.zone_changes.specs.Orders.{IsOrder, OthersStay, slotted_of}
use Rattle.zone_list.specs.declared.refs.SetRef.{SetRef}
use Rattle.zone_list.specs.Steps.{cells_in_all, Comings}
use Rattle.zone_list.proofs.changing.come_all.Given as goal

abbrev pub invariant-loop-set : goal.invariant-loop-set
invariant-loop-set l = record {
  order : IsOrder l.store.slots l.zone l.order.items;
  come : (told : List SetRef) (after : List Slotted)
      → Comings l.zone (slotted_of l.store.slots l.zone l.order.items) (drop l.set-index l.add) told after
      → Comings l.zone (slotted_of l.fn.store.slots l.zone l.fn.order.items) l.add (l.added.items ++ told)
      after;
  others : OthersStay l.zone l.fn.store.slots l.store.slots;
  cells : cells_in_all (drop l.set-index l.add) ≤ l.store.cells;
  slots : length (drop l.set-index l.add) ≤ l.store.free;
  places : vec_len l.order + length (drop l.set-index l.add) ≤ vec_capacity l.order;
  refs : length l.added.items + length (drop l.set-index l.add) ≤ vec_capacity l.added;
  buffer : length l.buffer ≡ length l.fn.buffer;
  slots_stay : length l.store.slots ≡ length l.fn.store.slots;
  sums : l.sums ≡ sums_of (slotted_of l.store.slots l.zone l.order.items);
  sets : l.store.free + length l.order.items ≡ l.fn.store.free + length l.fn.order.items;
}
