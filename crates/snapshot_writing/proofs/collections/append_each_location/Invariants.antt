use Rattle.std.proofs.Common.{◌≡◌, ◌++◌, take, drop}
use Rattle.std.specs.List.{AllByRecursion, flat_map}
use Rattle.snapshot_octets.specs.Octets.{IsSpelledLocation, location_octets}
use Rattle.snapshot_writing.proofs.collections.append_each_location.Given as goal

abbrev pub invariant-loop-location : goal.invariant-loop-location
invariant-loop-location l =
    (l.into.items
    ≡ l.fn.into.items ++ flat_map location_octets (take l.location-index l.locations))
    × AllByRecursion IsSpelledLocation (drop l.location-index l.locations)
