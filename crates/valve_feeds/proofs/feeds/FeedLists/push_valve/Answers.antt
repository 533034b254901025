use Rattle.std.proofs.Common.{ap, arith}
use Rattle.valve_feeds.specs.Feeds.{BothWays}
use Rattle.valve_feeds.proofs.Stages.{valve_more}
use Rattle.valve_feeds.proofs.feeds.FeedLists.push_valve.Goals as goal

pub invariant_of-self : goal.invariant_of-self
invariant_of-self c =
    let room = ap (λ (s : BothWays). s.valves_room) c.self.view_is in
    valve_more _ _ _ _ _ c.self.invariant c.push_list.ensures.valves c.push_list.ensures.free c.push_list.ensures.cells
    c.push_owner.ensures.lists c.push_owner.ensures.cells (omega arith)
