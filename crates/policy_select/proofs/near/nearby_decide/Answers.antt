use Rattle.policy_select.proofs.Nearby.{nearby_decide}
use Rattle.policy_select.proofs.near.nearby_decide.Goals as goal

pub returns : goal.returns
returns c = nearby_decide
