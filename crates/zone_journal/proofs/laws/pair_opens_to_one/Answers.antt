use Rattle.zone_journal.proofs.PairLemmas.{pair_opens_to_one}
use Rattle.zone_journal.proofs.laws.pair_opens_to_one.Goals as goal

pub returns : goal.returns
returns c = pair_opens_to_one
