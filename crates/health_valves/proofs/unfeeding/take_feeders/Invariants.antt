use Rattle.std.proofs.Common.{◌≡◌, ◌≢◌, ◌≤◌, ℕ, length}
use Rattle.valve_feeds.specs.Feeds.{fed_by, feeders_of, times}
use Rattle.health_valves.proofs.unfeeding.take_feeders.Given as goal

abbrev pub invariant-loop : goal.invariant-loop
invariant-loop l = record {
  others : (x y : ℕ) → y ≢ l.valve → times y (fed_by l.feeds x) ≡ times y (fed_by l.fn.feeds x);
  valves : length l.feeds.fed ≡ length l.fn.feeds.fed;
  most : l.feeds.most ≡ l.fn.feeds.most;
  room : l.fn.feeds.room ≤ l.feeds.room;
  valves_room : l.feeds.valves_room ≡ l.fn.feeds.valves_room;
}

abbrev pub decreases-loop : goal.decreases-loop
decreases-loop l = length (feeders_of l.feeds l.valve)
