use Rattle.std.proofs.Common.{◌≡◌, ap, sym, ◌∙◌}
use mathlib.Core.Path.{subst}
use Rattle.std.specs.Prelude.{IsTrue, slice_index}
use Rattle.health_planning.specs.Wired.{IsPlace, valve_with}
use Rattle.health_valves.specs.Valves.{Feeds}
use Rattle.health_standing.specs.Leaving.{IsFedByCheck}
use Rattle.health_standing.proofs.fed_alike.check_feeds.Goals as goal

pub returns : goal.returns
returns c =
    let ids = c.args.ids.now in
    let numbers = c.args.numbers.now in
    let at = subst (IsPlace ids c.in-Some.id) c.in-Some-place_near.is c.place_near.ensures in
    let feeder : c.number_at.result ≡ valve_with ids numbers c.in-Some.id = c.number_at.ensures ∙ ap (slice_index numbers) (sym at.1) in
    let ready = c.requires.ready in
    subst (λ check. (IsTrue c.feeds.result → IsFedByCheck ids numbers c.args.valves.now check c.args.valve)
    × (IsFedByCheck ids numbers c.args.valves.now check c.args.valve → IsTrue c.feeds.result)) (sym c.in-Some.is) (
      λ so. (
        (c.in-Some-place_near.place, at.0),
        λ net own fits. subst (λ n. Feeds net n c.args.valve) feeder ((c.feeds.ensures net own fits).0 so),
      ),
      λ fed. (c.feeds.ensures ready.0 ready.1 ready.2).1
          (subst (λ n. Feeds ready.0 n c.args.valve) (sym feeder) (fed.1 ready.0 ready.1 ready.2)),
    )
