use Rattle.std.proofs.Common.{◌≡◌, ◌+◌, ◌≤◌, length, drop}
use Rattle.cidr_blocks.specs.Places.{rows_of}
use Rattle.cidr_blocks.proofs.judging.count_of.Given as goal

abbrev pub invariant-loop-location : goal.invariant-loop-location
invariant-loop-location l = record {
  few : l.count ≤ 1000;
  counted : l.count + length (rows_of (drop l.location-index l.locations))
      ≡ length (rows_of l.locations);
}
