use Rattle.std.proofs.Common.{arith}
use Rattle.set_store.proofs.Eights.{told_eight}
use Rattle.set_store.proofs.siblings.label_before.Goals as goal

pub returns : goal.returns
returns c =
    told_eight c.args.label.now c.args.other.now (λ i. omega (arith, c.type_inv.label i))
    (λ i. omega (arith, c.type_inv.other i)) (let f = c.if-label-lt8.false in omega (arith, f))
    (let f = c.if-other-lt8.false in omega (arith, f)) c.eight_of-own.result c.eight_of-others.result
    c.eight_of-own.ensures c.eight_of-others.ensures c.if-own-others.false
