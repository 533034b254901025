use Rattle.std.proofs.Common.{◌≡◌, ◌<◌, [], length, ap, sym, ◌∙◌}
use mathlib.Core.Path.{subst}
use Rattle.valve_feeds.specs.Feeds.{BothWays, fed_by, feeders_of, times}
use Rattle.health_valves.proofs.Cuts.{fewer_first, times_beside}
use Rattle.health_valves.proofs.unfeeding.take_feeder.Goals as goal

pub returns-in_default-clause-end : goal.returns-in_default-clause-end
returns-in_default-clause-end c done x =
    let is = c.in_default.ensures in
    let r = c.len.ensures.reversed in
    let none : feeders_of c.args.feeds.now c.args.valve ≡ [] = is.0 in
    ap (λ (f : BothWays). times c.args.valve (fed_by f x)) is.1 ∙ r.times x c.args.valve ∙ ap (times x) none

pub returns-clause-fewer : goal.returns-clause-fewer
returns-clause-fewer c some =
    let is = c.in-Some.ensures in
    let valve = c.args.valve in
    let f = c.args.feeds.now in
    subst (λ (g : BothWays). length (feeders_of g valve) < length (feeders_of f valve)) (sym is.1)
    (fewer_first f.feeders valve c.in-Some._feeder is.0)

pub returns-clause-others : goal.returns-clause-others
returns-clause-others c x y apart =
    let is = c.in-Some.ensures in
    ap (λ (g : BothWays). times y (fed_by g x)) is.1
    ∙ times_beside c.args.valve y apart c.args.feeds.now.fed c.in-Some._feeder x
