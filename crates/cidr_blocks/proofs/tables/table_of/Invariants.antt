use Rattle.std.proofs.Common.{◌≡◌, drop, ◌++◌}
use Rattle.cidr_blocks.specs.Places.{rows_of}
use Rattle.cidr_blocks.proofs.tables.table_of.Given as goal

abbrev pub invariant-loop-location : goal.invariant-loop-location
invariant-loop-location l =
    l.table ++ rows_of (drop l.location-index l.locations) ≡ rows_of l.locations
