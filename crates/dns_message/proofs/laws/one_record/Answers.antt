use Rattle.dns_message.proofs.Walking.{one_record}
use Rattle.dns_message.proofs.laws.one_record.Goals as goal

pub returns : goal.returns
returns c = one_record
