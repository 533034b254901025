use Rattle.policy_select.proofs.GroupSizes.{FewAtFirst}
use Rattle.policy_select.proofs.few.groups_are_few.Given as goal

abbrev pub invariant-loop-set : goal.invariant-loop-set
invariant-loop-set l = FewAtFirst l.sets l.set-index
