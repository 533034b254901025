use Rattle.std.proofs.Common.{◌≡◌, ◌+◌, ◌*◌, ◌≤◌, ◌++◌, take, vec_capacity, vec_len}
use Rattle.json.specs.Print.{escape}
use Rattle.json_text.proofs.quoting.put_escaped.Given as goal

abbrev pub invariant-loop-b : goal.invariant-loop-b
invariant-loop-b l = record {
  text : l.into.items ≡ l.fn.into.items ++ escape (take l.b-index l.text);
  len : vec_len l.into ≤ vec_len l.fn.into + 6 * l.b-index;
  room : vec_capacity l.fn.into ≤ vec_capacity l.into;
}
