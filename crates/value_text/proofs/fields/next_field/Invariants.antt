use Rattle.std.proofs.Common.{◌≡◌, drop}
use Rattle.value_text.specs.Fields.{next_field}
use Rattle.value_text.proofs.fields.next_field.Given as goal

abbrev pub invariant-loop-start : goal.invariant-loop-start
invariant-loop-start l = next_field l.start (drop l.start l.text)
    ≡ next_field l.fn.at (drop l.fn.at l.text)
