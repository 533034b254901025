use Rattle.std.proofs.Common.{◌≡◌, ◌+◌, take, length}
use Rattle.std.specs.List.{flat_map}
use Rattle.set_octets.specs.Octets.{value_octets}
use Rattle.set_octets.proofs.lengths.are_long.Given as goal

abbrev pub invariant-loop-value : goal.invariant-loop-value
invariant-loop-value l = l.left + length (flat_map value_octets (take l.value-index l.values))
    ≡ l.room
