use Rattle.config_zones.proofs.Walked.{follow}
use Rattle.config_zones.proofs.laws.zones_follow.Goals as goal

pub returns : goal.returns
returns c = follow
