use Rattle.std.proofs.Common.{◌<◌, arith, sym, ◌∙◌, refl, length}
use Rattle.value_text.proofs.Bounds.{above_at}
use Rattle.value_text.proofs.numbers.number.Goals as goal

pub returns-then-value-from : goal.returns-then-value-from
returns-then-value-from c =
    let some : 0 < length c.args.field.now = omega arith in
    above_at c.args.most c.loop-b.value _ c.loop-b.b-index c.args.field.now some (omega arith)
    c.loop-b.invariant.same
    (sym c.is_digit.ensures ∙ c.if-not-is_digit.false) refl (omega arith)
