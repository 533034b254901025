use Rattle.std.proofs.Common.{◌≡◌, ◌+◌, ℕ, length, drop}
use Rattle.health_valves.specs.Blueprint.{feeders_in}
use Rattle.valve_feeds.specs.Feeds.{fed_by, times}
use Rattle.health_valves.proofs.laying.lay_links.Given as goal

abbrev pub invariant-loop-link : goal.invariant-loop-link
invariant-loop-link l = record {
  fed : (x y : ℕ) → times y (fed_by l.feeds x) + times x (feeders_in (drop l.link-index l.links) y) ≡ times x (feeders_in l.links y);
  valves : length l.feeds.fed ≡ length l.fn.feeds.fed;
  room : l.feeds.room + l.link-index ≡ l.fn.feeds.room;
  most : l.feeds.most ≡ l.fn.feeds.most;
  valves_room : l.feeds.valves_room ≡ l.fn.feeds.valves_room;
}
