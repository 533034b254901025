use Rattle.config_zones.proofs.Counts.{agree}
use Rattle.config_zones.proofs.laws.counts_agree.Goals as goal

pub returns : goal.returns
returns c = agree
