use Rattle.std.proofs.Common.{length, ap, refl, arith}
use Rattle.std.proofs.lemmas.List.{length-map}
use Rattle.std.specs.Vec.{with_item}
use Rattle.valve_feeds.specs.Feeds.{BothWays}
use Rattle.valve_feeds.specs.Joined.{fed_in, of_valves}
use Rattle.valve_feeds.proofs.Stages.{feed_joined}
use Rattle.valve_feeds.proofs.Seen.{seen_more}
use Rattle.valve_feeds.proofs.feeds.FeedLists.feed.Goals as goal

pub invariant_of-self : goal.invariant_of-self
invariant_of-self c =
    let has = c.free_cell-cell.ensures in
    let fed = ap length (ap (λ (s : BothWays). s.fed) c.self.view_is) in
    let long = length-map (of_valves c.self.inside.out.lists) (fed_in c.self.inside.ends.items) in
    let owners = c.self.invariant.owners in
    let valves = ap length has.same_valves in
    let into = ap length has.same_into in
    rw (c.put.ensures.put, c.put-2.ensures.put, c.list_from.ensures)
    (feed_joined _ _ _ c.args.feeder c.args.fed c.free_cell-cell.result has.joined has.within (omega arith) (omega arith) has.out_free has.into_free)

pub returns : goal.returns
returns c =
    let has = c.free_cell-cell.ensures in
    let fed = ap length (ap (λ (s : BothWays). s.fed) c.self.view_is) in
    let long = length-map (of_valves c.self.inside.out.lists) (fed_in c.self.inside.ends.items) in
    let owners = c.self.invariant.owners in
    rw (c.put.ensures.put, c.put-2.ensures.put, c.list_from.ensures, ← c.self.view_is)
    (seen_more _ _ (with_item c.free_cell-cell.new.ends c.free_cell-cell.result (record { feeder = c.args.feeder; fed = c.args.fed }))
    _ _ _ _ c.args.feeder c.args.fed c.free_cell-cell.result has refl refl (omega arith) (omega arith))
