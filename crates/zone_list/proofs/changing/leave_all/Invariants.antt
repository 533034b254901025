use Rattle.std.proofs.Common.{◌≡◌, ◌≤◌, ◌+◌, ◌++◌, List, length, drop, vec_capacity}
use Rattle.zone_changes.specs.Sums.{sums_of}
use Rattle.zone_changes.specs.Slotted.{Slotted, sets_of}
use Rattle.zone_changes.specs.Orders.{IsOrder, OthersStay, slotted_of}
use Rattle.zone_list.specs.declared.refs.SetRef.{SetRef}
use Rattle.zone_list.specs.Changes.{AreThere}
use Rattle.zone_list.specs.Steps.{Goings}
use Rattle.zone_list.proofs.changing.leave_all.Given as goal

abbrev pub invariant-loop-key : goal.invariant-loop-key
invariant-loop-key l = record {
  order : IsOrder l.store.slots l.zone l.order.items;
  there : AreThere (sets_of (slotted_of l.store.slots l.zone l.order.items)) (drop l.key-index l.keys);
  leave : (told : List SetRef) (after : List Slotted)
      → Goings l.zone l.add l.added (slotted_of l.store.slots l.zone l.order.items)
      (drop l.key-index l.keys) told after
      → Goings l.zone l.add l.added (slotted_of l.fn.store.slots l.zone l.fn.order.items) l.keys
      (l.removed.items ++ told) after;
  others : OthersStay l.zone l.fn.store.slots l.store.slots;
  refs : length l.removed.items + length (drop l.key-index l.keys) ≤ vec_capacity l.removed;
  slots_stay : length l.store.slots ≡ length l.fn.store.slots;
  sums : l.sums ≡ sums_of (slotted_of l.store.slots l.zone l.order.items);
  sets : l.store.free + length l.order.items ≡ l.fn.store.free + length l.fn.order.items;
}
