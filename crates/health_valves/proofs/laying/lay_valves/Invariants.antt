use Rattle.std.proofs.Common.{◌≡◌, ◌+◌, ℕ, [], length}
use Rattle.valve_feeds.specs.Feeds.{fed_by}
use Rattle.health_valves.proofs.laying.lay_valves.Given as goal

abbrev pub invariant-loop-i : goal.invariant-loop-i
invariant-loop-i l = record {
  valves : length l.feeds.fed ≡ l._i;
  fed : (x : ℕ) → fed_by l.feeds x ≡ [];
  room : l.feeds.room ≡ l.fn.feeds.room;
  most : l.feeds.most ≡ l.fn.feeds.most;
  valves_room : l.feeds.valves_room + l._i ≡ l.fn.feeds.valves_room;
}
