use Rattle.std.proofs.Common.{arith}
use Rattle.alias_tree.proofs.LinkByLink.{first_round}
use Rattle.alias_tree.proofs.walks.aliases_of.Goals as goal

pub returns : goal.returns
returns c =
    let so_far = c.loop-i.invariant.one_each in
    let at_end = c.loop-i-test.false in
    let within = c.loop-i.auto.i-end in
    first_round c.args.sets.now c.loop-i.starts.items (omega (arith, so_far, at_end, within))
    (λ i set lt at. c.loop-i.invariant.each i set (omega (arith, so_far, lt)) at)
