use Rattle.dns_message.proofs.Judgement.{one_split}
use Rattle.dns_message.proofs.laws.one_split.Goals as goal

pub returns : goal.returns
returns c = one_split c.one_name_at_the_front.ensures
