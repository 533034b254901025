use Rattle.std.proofs.Common.{refl, arith}
use Rattle.policy_select.proofs.GroupSizes.{few_of_all}
use Rattle.policy_select.proofs.few.groups_are_few.Goals as goal

pub returns : goal.returns
returns c =
    let behind = c.loop-set-test.false in (
      λ so. few_of_all c.few_by_each_set.ensures c.args.sets.now c.loop-set.set-index
          (omega (arith, behind)) c.loop-set.invariant,
      λ few. refl,
    )
