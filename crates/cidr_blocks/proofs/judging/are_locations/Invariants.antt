use Rattle.std.proofs.Common.{drop}
use Rattle.std.specs.List.{AllByRecursion}
use Rattle.std.specs.Prelude.{◌↔◌}
use Rattle.cidr_blocks.specs.Places.{IsCidrLocation}
use Rattle.cidr_blocks.proofs.judging.are_locations.Given as goal

abbrev pub invariant-loop-location : goal.invariant-loop-location
invariant-loop-location l = AllByRecursion IsCidrLocation l.locations
    ↔ AllByRecursion IsCidrLocation (drop l.location-index l.locations)
