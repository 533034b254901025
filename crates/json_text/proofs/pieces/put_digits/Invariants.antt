use Rattle.std.proofs.Common.{◌≡◌, ◌+◌, ◌*◌, ◌≤◌, ◌++◌, drop, vec_capacity, vec_len}
use Rattle.hex.specs.Hex.{encode_lower}
use Rattle.json_text.proofs.pieces.put_digits.Given as goal

abbrev pub invariant-loop-octet : goal.invariant-loop-octet
invariant-loop-octet l = record {
  text : l.into.items ++ encode_lower (drop l.octet-index l.octets)
      ≡ l.fn.into.items ++ encode_lower l.octets;
  len : vec_len l.into ≡ vec_len l.fn.into + 2 * l.octet-index;
  room : vec_capacity l.fn.into ≤ vec_capacity l.into;
}
