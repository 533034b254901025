use Rattle.dns_message.proofs.Judgement.{one_judgement}
use Rattle.dns_message.proofs.laws.one_judgement.Goals as goal

pub returns : goal.returns
returns c = one_judgement c.one_split.ensures c.one_reading.ensures
