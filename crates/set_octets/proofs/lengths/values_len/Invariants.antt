use Rattle.std.proofs.Common.{◌≡◌, ◌+◌, drop, length}
use Rattle.std.specs.List.{flat_map}
use Rattle.set_octets.specs.Octets.{value_octets}
use Rattle.set_octets.proofs.lengths.values_len.Given as goal

abbrev pub invariant-loop-value : goal.invariant-loop-value
invariant-loop-value l = l.len + length (flat_map value_octets (drop l.value-index l.values))
    ≡ length (flat_map value_octets l.values)
