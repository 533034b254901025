use Rattle.std.proofs.Common.{arith, ◌∙◌}
use Rattle.value_text.proofs.Quoted.{past_escaped}
use Rattle.value_text.proofs.fields.quoted_end.Goals as goal

pub loop-i-preserved-then-escaped : goal.loop-i-preserved-then-escaped
loop-i-preserved-then-escaped c =
    past_escaped c.args.text.now c.loop-i.i c.loop-i.escaped (omega arith) c.if-escaped.true
    ∙ c.loop-i.invariant
