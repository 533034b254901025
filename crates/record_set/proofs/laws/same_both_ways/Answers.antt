use Rattle.record_set.proofs.Times.{both_ways}
use Rattle.record_set.proofs.laws.same_both_ways.Goals as goal

pub returns : goal.returns
returns c = both_ways
