use Rattle.std.proofs.Common.{◌≡◌, ◌+◌, drop, false}
use Rattle.value_text.specs.Fields.{quoted_len}
use Rattle.value_text.proofs.fields.quoted_end.Given as goal

abbrev pub invariant-loop-i : goal.invariant-loop-i
invariant-loop-i l = l.i + quoted_len l.escaped (drop l.i l.text)
    ≡ l.fn.at + quoted_len false (drop l.fn.at l.text)
