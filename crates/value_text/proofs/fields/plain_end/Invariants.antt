use Rattle.std.proofs.Common.{◌≡◌, ◌+◌, drop}
use Rattle.value_text.specs.Fields.{plain_len}
use Rattle.value_text.proofs.fields.plain_end.Given as goal

abbrev pub invariant-loop-i : goal.invariant-loop-i
invariant-loop-i l = l.i + plain_len (drop l.i l.text) ≡ l.fn.at + plain_len (drop l.fn.at l.text)
