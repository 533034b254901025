use Rattle.std.proofs.Common.{◌≡◌, ◌*◌, ◌≤◌, length, drop}
use Rattle.rdata.specs.Steps.{ReadsUpTo}
use Rattle.rdata.proofs.reading.read_fields.Given as goal

abbrev pub invariant-loop-kind : goal.invariant-loop-kind
invariant-loop-kind l = record {
  within : l.at ≤ length l.text;
  size : length l.into.items ≤ 255 * l.kind-index;
  array : length l.octets ≡ 255;
  passes : ReadsUpTo l.text l.kinds (drop l.kind-index l.kinds) l.at l.into.items;
}
