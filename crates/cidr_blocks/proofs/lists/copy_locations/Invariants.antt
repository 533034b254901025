use Rattle.std.proofs.Common.{◌≡◌, take}
use Rattle.cidr_blocks.proofs.lists.copy_locations.Given as goal

abbrev pub invariant-loop-location : goal.invariant-loop-location
invariant-loop-location l = l.list.items ≡ take l.location-index l.locations
