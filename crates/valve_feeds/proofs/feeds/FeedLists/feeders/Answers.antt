use Rattle.std.proofs.Common.{◌<◌, ap, sym, subst, length, ◌∙◌, arith}
use Rattle.std.specs.List.{All}
use Rattle.std.proofs.lemmas.List.{length-map}
use Rattle.valve_feeds.specs.Feeds.{BothWays}
use Rattle.valve_feeds.specs.Joined.{fed_in, feeders_in, of_valves}
use Rattle.valve_feeds.proofs.Seen.{feeders_below}
use Rattle.valve_feeds.proofs.feeds.FeedLists.feeders.Goals as goal

pub returns-clause-within : goal.returns-clause-within
returns-clause-within c k d below =
    let same = ap (λ l. feeders_in l c.cells.result) c.deref.ensures.value
    ∙ ap (feeders_in c.self.inside.ends.items) c.cells.ensures.cells in
    let there = subst (All (λ x. x < length (of_valves c.self.inside.out.lists))) (sym same)
    (feeders_below c.self.inside.ends.items c.self.inside.out _ c.args.fed c.self.invariant) k d below in
    let fed = ap length (ap (λ (s : BothWays). s.fed) c.self.view_is) in
    let long = length-map (of_valves c.self.inside.out.lists) (fed_in c.self.inside.ends.items) in
    omega arith
