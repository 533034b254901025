use Rattle.policy_select.proofs.Members.{views_agree}
use Rattle.policy_select.proofs.view.views_agree.Goals as goal

pub returns : goal.returns
returns c = views_agree
