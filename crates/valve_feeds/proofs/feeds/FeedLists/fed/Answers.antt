use Rattle.std.proofs.Common.{◌<◌, ap, sym, subst, length, ◌∙◌, arith}
use Rattle.std.specs.List.{All}
use Rattle.std.proofs.lemmas.List.{length-map}
use Rattle.cell_lists.specs.Lists.{list_of}
use Rattle.valve_feeds.specs.Feeds.{BothWays}
use Rattle.valve_feeds.specs.Joined.{fed_in, of_valves}
use Rattle.valve_feeds.proofs.Seen.{fed_below}
use Rattle.valve_feeds.proofs.feeds.FeedLists.fed.Goals as goal

pub returns-clause-within : goal.returns-clause-within
returns-clause-within c k d below =
    let same = ap (λ l. fed_in l c.cells.result) c.deref.ensures.value
    ∙ ap (fed_in c.self.inside.ends.items) (c.cells.ensures.cells ∙ ap (list_of c.self.inside.out) c.list_from.ensures) in
    let there = subst (All (λ y. y < length (of_valves c.self.inside.out.lists))) (sym same)
    (fed_below c.self.inside.ends.items _ c.self.inside.into c.args.feeder c.self.invariant) k d below in
    let fed = ap length (ap (λ (s : BothWays). s.fed) c.self.view_is) in
    let long = length-map (of_valves c.self.inside.out.lists) (fed_in c.self.inside.ends.items) in
    omega arith
