use Rattle.std.proofs.Common.{◌≡◌, ◌+◌, ◌*◌, ◌≤◌, [], ◌∷◌, ◌++◌, drop, false, vec_capacity, vec_len}
use Rattle.std.specs.Prelude.{map, nat_lt}
use Rattle.reply_words.specs.Json.{check_text, items_of}
use Rattle.dump_writing.proofs.dump.put_children.Given as goal
use Rattle.serde_json.specs.Written.{items_text}

abbrev pub invariant-loop-i : goal.invariant-loop-i
invariant-loop-i l = record {
  text : l.into.items ++ items_text (nat_lt 0 l.i) (items_of (map check_text (drop l.i l.children)))
      ≡ (l.fn.into.items ++ 91 ∷ []) ++ items_text false (items_of (map check_text l.children));
  len : vec_len l.into ≤ (vec_len l.fn.into + 1) + 100 * l.i;
  room : vec_capacity l.fn.into ≤ vec_capacity l.into;
}
