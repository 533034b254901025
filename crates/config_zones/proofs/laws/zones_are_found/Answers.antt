use Rattle.config_zones.proofs.Found.{are_found}
use Rattle.config_zones.proofs.laws.zones_are_found.Goals as goal

pub returns : goal.returns
returns c = are_found
