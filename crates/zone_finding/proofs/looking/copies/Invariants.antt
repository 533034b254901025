use Rattle.std.proofs.Common.{◌≡◌, take}
use Rattle.zone_list.specs.Slotted.{sets_of}
use Rattle.zone_list.specs.Orders.{slotted_of}
use Rattle.zone_finding.proofs.looking.copies.Given as goal

abbrev pub invariant-loop-slot : goal.invariant-loop-slot
invariant-loop-slot l =
    l.copies.items ≡ sets_of (slotted_of l.store.slots l.zone (take l.slot-index l.order))
