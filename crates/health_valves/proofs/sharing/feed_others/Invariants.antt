use Rattle.std.proofs.Common.{◌↔◌, ◌<◌, length}
use Rattle.std.specs.Prelude.{All}
use Rattle.health_valves.specs.Valves.{FeedOthers}
use Rattle.health_valves.proofs.sharing.feed_others.Given as goal

abbrev pub invariant-loop-feeder : goal.invariant-loop-feeder
invariant-loop-feeder l = record {
  rest : FeedOthers l.feeds l.valve l.first l.fn.feeders ↔ FeedOthers l.feeds l.valve l.first l.feeder-iterator;
  within : All (λ x. x < length l.feeds.fed) l.feeder-iterator;
}
