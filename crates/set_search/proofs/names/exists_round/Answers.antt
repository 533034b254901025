use Rattle.std.proofs.Common.{◌-◌, arith, inl, inr, refl}
use Rattle.set_search.proofs.Below.{beside, exists_at}
use Rattle.set_search.proofs.names.exists_round.Goals as goal

pub returns-then-is_below_before : goal.returns-then-is_below_before
returns-then-is_below_before g c = (
  (λ h. exists_at (g.S.SetList.sets c.args.sets.now) c.args.name.now (c.args.place - 1)
      (c.is_below_before.ensures.0 c.if-is_below_before.true).1),
  λ e. refl,
)

pub returns : goal.returns
returns g c =
    let sets = g.S.SetList.sets c.args.sets.now in (
      (λ h. exists_at sets c.args.name.now c.args.place (c.is_below_at.ensures.0 h)),
      λ e. elim (beside sets c.args.name.now c.args.below.now c.args.place c.requires.rising
          c.requires.first c.requires.below e) [
            | inl x ↦ absurd
                (let t = c.is_below_before.ensures.1 x in let f = c.if-is_below_before.false in
                grind (arith, t, f))
            | inr x ↦ c.is_below_at.ensures.1 x
          ],
    )
