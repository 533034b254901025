use Rattle.policy_select.proofs.GroupSizes.{few_by_each_set}
use Rattle.policy_select.proofs.few.few_by_each_set.Goals as goal

pub returns : goal.returns
returns c = few_by_each_set
