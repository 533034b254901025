use Rattle.std.proofs.Common.{arith, refl}
use Rattle.set_octets.proofs.Counted.{too_many}
use Rattle.set_octets.proofs.lengths.are_long.Goals as goal

pub returns-then-left-len : goal.returns-then-left-len
returns-then-left-len c =
    let more = too_many c.args.values.now c.loop-value.value-index c.value-item.result
    c.args.room c.loop-value.left c.loop-value-test.true c.value-item.is c.loop-value.invariant
    (omega (arith, c.if-left-len.true, c.value_len-len.ensures.exact)) in
    (λ _. more, λ _. refl)
