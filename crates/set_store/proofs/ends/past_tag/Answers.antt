use Rattle.std.proofs.Common.{◌+◌, subst, arith}
use Rattle.std.proofs.lemmas.Option.{slice_get_within}
use Rattle.set_store.specs.Ends.{IsOtherAt}
use Rattle.set_store.proofs.ends.past_tag.Goals as goal

pub returns-then-next-order-clause-apart : goal.returns-then-next-order-clause-apart
returns-then-next-order-clause-apart c at slot there is other another at_too is_too =
    absurd (let within = slice_get_within c.args.order.now (c.args.place + 1) other at_too in
    let last = c.if-next-order.true in omega (arith, within, last))

pub returns-clause-apart : goal.returns-clause-apart
returns-clause-apart c at slot there is =
    subst (λ t. IsOtherAt c.args.slots.now.items c.args.order.now t c.other_between.result)
    (c.tag_there-own.ensures at slot there is) c.other_between.ensures.other
