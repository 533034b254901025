use Rattle.std.proofs.Common.{◌≡◌, ◌+◌, ◌*◌, ◌≤◌, ◌∷◌, ◌++◌, length, take, drop}
use Rattle.std.specs.List.{flat_map}
use Rattle.value_text.specs.Fields.{quote}
use Rattle.value_text.specs.Strings.{character_text}
use Rattle.value_text.proofs.strings.write_string.Given as goal

abbrev pub invariant-loop-b : goal.invariant-loop-b
invariant-loop-b l = record {
  room : l.end ≤ l.fn.at + 4 * l.b-index + 1;
  end_is : l.end ≡ l.fn.at + length (quote ∷ flat_map character_text (take l.b-index l.string));
  written : take l.end l.into ≡ take l.fn.at l.fn.into
      ++ (quote ∷ flat_map character_text (take l.b-index l.string));
  kept : drop l.end l.into ≡ drop l.end l.fn.into;
}
