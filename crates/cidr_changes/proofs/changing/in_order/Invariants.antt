use Rattle.std.proofs.Common.{◌≡◌, [], drop}
use Rattle.cidr_changes.specs.Changed.{with_locations}
use Rattle.cidr_changes.proofs.changing.in_order.Given as goal

abbrev pub invariant-loop-location : goal.invariant-loop-location
invariant-loop-location l =
    with_locations (drop l.location-index l.locations) l.rows.entries
    ≡ with_locations l.locations []
