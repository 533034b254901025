use Rattle.record_set.proofs.Firsts.{one_first}
use Rattle.record_set.proofs.laws.one_first_reason.Goals as goal

pub returns : goal.returns
returns c = one_first
