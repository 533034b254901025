use Rattle.std.proofs.Common.{◌≡◌, ◌≤◌, replicate}
use Rattle.std.specs.Vec.{vec_capacity}
use Rattle.packet_cache.specs.Places.{free}
use Rattle.packet_cache.proofs.cache.lay_free.Given as goal

abbrev pub invariant-loop-i : goal.invariant-loop-i
invariant-loop-i l = record {
  within : l._i ≤ l.n;
  items : l.places.items ≡ replicate l._i free;
  room : vec_capacity l.places ≡ vec_capacity l.fn.places;
}
