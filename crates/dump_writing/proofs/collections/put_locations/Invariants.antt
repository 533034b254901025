use Rattle.std.proofs.Common.{◌≡◌, ◌+◌, ◌*◌, ◌≤◌, [], ◌∷◌, ◌++◌, drop, false, vec_capacity, vec_len}
use Rattle.std.specs.Prelude.{map, nat_lt}
use Rattle.reply_words.specs.Dump.{location_object}
use Rattle.reply_words.specs.Json.{items_of}
use Rattle.dump_writing.proofs.collections.put_locations.Given as goal
use Rattle.dump_writing.specs.Rooms.{room_of}
use Rattle.serde_json.specs.Written.{items_text}

abbrev pub invariant-loop-i : goal.invariant-loop-i
invariant-loop-i l = record {
  text : l.into.items ++ items_text (nat_lt 0 l.i) (items_of (map location_object (drop l.i l.locations)))
      ≡ (l.fn.into.items ++ 91 ∷ []) ++ items_text false (items_of (map location_object l.locations));
  len : vec_len l.into + room_of (drop l.i l.locations) ≤ (vec_len l.fn.into + 1) + room_of l.locations;
  room : vec_capacity l.fn.into ≤ vec_capacity l.into;
}
