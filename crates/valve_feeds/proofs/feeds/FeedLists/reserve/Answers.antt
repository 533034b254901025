use Rattle.std.proofs.Common.{refl}
use Rattle.valve_feeds.proofs.Stages.{rejoined}
use Rattle.valve_feeds.proofs.feeds.FeedLists.reserve.Goals as goal

pub invariant_of-self-in_default-reserve : goal.invariant_of-self-in_default-reserve
invariant_of-self-in_default-reserve c =
    rw c.make_room_for.ensures.items
    (rejoined _ _ _ _ _ c.self.invariant c.reserve.ensures.lists c.reserve.ensures.cells refl refl)

pub invariant_of-self-in_default-reserve-2 : goal.invariant_of-self-in_default-reserve-2
invariant_of-self-in_default-reserve-2 c =
    rw c.make_room_for.ensures.items
    (rejoined _ _ _ _ _ c.self.invariant c.reserve.ensures.lists c.reserve.ensures.cells c.reserve-2.ensures.lists c.reserve-2.ensures.cells)

pub invariant_of-self-2 : goal.invariant_of-self-2
invariant_of-self-2 c =
    rw c.make_room_for.ensures.items
    (rejoined _ _ _ _ _ c.self.invariant c.reserve.ensures.lists c.reserve.ensures.cells c.reserve-2.ensures.lists c.reserve-2.ensures.cells)
