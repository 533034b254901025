use Rattle.std.proofs.Common.{◌≡◌, ◌++◌, drop}
use Rattle.cidr_blocks.specs.Places.{StandOnce, rows_of}
use Rattle.cidr_blocks.proofs.judging.stand_once.Given as goal

abbrev pub invariant-loop-location : goal.invariant-loop-location
invariant-loop-location l = record {
  once : StandOnce l.table;
  rows : l.table ++ rows_of (drop l.location-index l.locations) ≡ rows_of l.locations;
}
