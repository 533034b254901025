use Rattle.std.proofs.Common.{◌≤◌, drop, length}
use Rattle.std.specs.Option.{option_copied}
use Rattle.geo_latency.specs.Nearest.{IsWithin, IsFirstRank, ranks}
use Rattle.geo_latency.proofs.places.choose_place.Given as goal

abbrev pub invariant-loop-i : goal.invariant-loop-i
invariant-loop-i l = record {
  leads : IsFirstRank l.nearest.rank l.nearest.set
      (ranks (option_copied l.client) l.healthy l.i (drop l.i l.places));
  most : l.nearest.rank ≤ 8;
  within : IsWithin l.nearest (length l.places);
}
