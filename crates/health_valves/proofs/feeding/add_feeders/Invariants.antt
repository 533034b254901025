use Rattle.std.proofs.Common.{◌≡◌, ◌≢◌, ◌+◌, ℕ, length, drop}
use Rattle.valve_feeds.specs.Feeds.{fed_by, times}
use Rattle.health_valves.proofs.feeding.add_feeders.Given as goal

abbrev pub invariant-loop-feeder : goal.invariant-loop-feeder
invariant-loop-feeder l = record {
  fed : (x : ℕ) → times l.valve (fed_by l.feeds x) + times x (drop l.feeder-index l.feeders) ≡ times l.valve (fed_by l.fn.feeds x) + times x l.feeders;
  others : (x y : ℕ) → y ≢ l.valve → times y (fed_by l.feeds x) ≡ times y (fed_by l.fn.feeds x);
  valves : length l.feeds.fed ≡ length l.fn.feeds.fed;
  room : l.feeds.room + l.feeder-index ≡ l.fn.feeds.room;
  most : l.feeds.most ≡ l.fn.feeds.most;
  valves_room : l.feeds.valves_room ≡ l.fn.feeds.valves_room;
}
