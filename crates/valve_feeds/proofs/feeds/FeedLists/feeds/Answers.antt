use Rattle.std.proofs.Common.{ap, arith}
use Rattle.cell_lists.specs.Lists.{list_at}
use Rattle.cell_lists.proofs.Members.{few_once}
use Rattle.valve_feeds.specs.Feeds.{BothWays}
use Rattle.valve_feeds.proofs.feeds.FeedLists.feeds.Goals as goal

pub overflow_sub-result : goal.overflow_sub-result
overflow_sub-result c =
    let apart = c.len.ensures.apart in
    let few = few_once c.self.inside.out.cells (list_at c.self.inside.out.lists 0) (apart.once 0) (apart.within 0) in
    let cells = c.self.invariant.out_cells in
    let long = c.self.inside.ends.ok.0 in
    omega (arith, c.len-2.ensures)

pub returns : goal.returns
returns c =
    let apart = c.len.ensures.apart in
    let few = few_once c.self.inside.out.cells (list_at c.self.inside.out.lists 0) (apart.once 0) (apart.within 0) in
    let cells = c.self.invariant.out_cells in
    let room = ap (λ (s : BothWays). s.room) c.self.view_is in
    let most = ap (λ (s : BothWays). s.most) c.self.view_is in
    let long = c.self.inside.ends.ok.0 in
    omega (arith, c.len-2.ensures)
