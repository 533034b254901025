use Rattle.std.proofs.Common.{subst, sym}
use Rattle.line_reading.specs.Reading.{Faults}
use Rattle.set_lines.specs.Values.{value_of}
use Rattle.set_lines.proofs.Together.{too_long}
use Rattle.set_lines.proofs.values.value_of.Goals as goal

pub returns-then-text-gt-MOST_TEXT : goal.returns-then-text-gt-MOST_TEXT
returns-then-text-gt-MOST_TEXT c =
    subst (λ fault. Faults fault (value_of c.args.member c.args.rtype c.args.text.now))
    (sym c.bad.ensures)
    (too_long c.args.member c.args.rtype c.args.text.now c.if-text-gt-MOST_TEXT.true)
