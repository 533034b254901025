use Rattle.std.proofs.Common.{◌≡◌, drop}
use Rattle.std.specs.List.{list_any}
use Rattle.std.specs.Str.{bytes_eq}
use Rattle.cidr_blocks.specs.Places.{names_of}
use Rattle.zone_soundness.proofs.naming.has_location.Given as goal

abbrev pub invariant-loop-location : goal.invariant-loop-location
invariant-loop-location l =
    list_any (bytes_eq l.name) (names_of (drop l.location-index l.locations))
    ≡ list_any (bytes_eq l.name) (names_of l.locations)
