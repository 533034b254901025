use Rattle.std.proofs.Common.{◌≡◌, ◌+◌, ◌++◌, length, take, drop}
use Rattle.std.specs.List.{flat_map}
use Rattle.set_octets.specs.Octets.{value_octets}
use Rattle.set_octets.proofs.filling.put_values.Given as goal

abbrev pub invariant-loop-value : goal.invariant-loop-value
invariant-loop-value l = record {
  left : l.end + length (flat_map value_octets (drop l.value-index l.values))
      ≡ l.fn.at + length (flat_map value_octets l.values);
  so_far : take l.end l.buffer ++ flat_map value_octets (drop l.value-index l.values)
      ≡ take l.fn.at l.fn.buffer ++ flat_map value_octets l.values;
}
