use Rattle.std.proofs.Common.{ap, take, arith}
use Rattle.set_store.proofs.Eights.{same_by_ends}
use Rattle.set_store.proofs.sameness.is_alike.Goals as goal

pub returns-then-size-le16 : goal.returns-then-size-le16
returns-then-size-le16 c = (
  λ so. same_by_ends 8 c.args.octets.now c.args.others.now c.behind.result.now
      c.behind-then-size-le16.result.now
      c.requires c.behind.ensures c.behind-then-size-le16.ensures
      (let f = c.if-size-lt8.false in omega (arith, f)) (let f = c.if-size-le16.true in omega (arith, f))
      (c.are_eight_alike.ensures.0 (let f = c.if-not-are_eight_alike.false in grind (arith, f)))
      (c.are_eight_alike-then-size-le16.ensures.0 so),
  λ same. c.are_eight_alike-then-size-le16.ensures.1 (ap (take 8) same),
)

pub returns : goal.returns
returns c = (
  λ so. same_by_ends 16 c.args.octets.now c.args.others.now c.behind-2.result.now c.behind-3.result.now
      c.requires c.behind-2.ensures c.behind-3.ensures
      (let f = c.if-size-le16.false in omega (arith, f)) (let f = c.if-size-gt32.false in omega (arith, f))
      (c.are_sixteen_alike.ensures.0 (let f = c.if-not-are_sixteen_alike.false in grind (arith, f)))
      (c.are_sixteen_alike-2.ensures.0 so),
  λ same. c.are_sixteen_alike-2.ensures.1 (ap (take 16) same),
)
