use Rattle.std.proofs.Common.{◌∙◌, ap, take, arith, sym}
use Rattle.set_store.proofs.Eights.{second_of_sixteen, sixteen}
use Rattle.set_store.proofs.sameness.are_sixteen_alike.Goals as goal

pub returns : goal.returns
returns c = (
  λ so. sixteen c.args.octets.now c.args.others.now
      (c.are_eight_alike.ensures.0 (let f = c.if-not-are_eight_alike.false in grind (arith, f)))
      (ap (take 8) (sym c.behind.ensures)
      ∙ (c.are_eight_alike-2.ensures.0 so ∙ ap (take 8) c.behind-2.ensures)),
  λ same. c.are_eight_alike-2.ensures.1
      (ap (take 8) c.behind.ensures
      ∙ (second_of_sixteen c.args.octets.now c.args.others.now same ∙ ap (take 8) (sym c.behind-2.ensures))),
)
