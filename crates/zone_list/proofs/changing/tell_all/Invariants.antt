use Rattle.std.proofs.Common.{◌≡◌, map, take}
use Rattle.zone_changes.specs.Orders.{slotted_of}
use Rattle.zone_list.specs.Changes.{ref_in}
use Rattle.zone_list.proofs.changing.tell_all.Given as goal

abbrev pub invariant-loop-slot : goal.invariant-loop-slot
invariant-loop-slot l =
    l.told.items ≡ map (ref_in l.zone) (slotted_of l.store.slots l.zone (take l.slot-index l.order))
