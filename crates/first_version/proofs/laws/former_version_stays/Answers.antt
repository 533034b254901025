use Rattle.first_version.proofs.Steps.{first_version_stays as holds}
use Rattle.first_version.proofs.laws.former_version_stays.Goals as goal

pub returns : goal.returns
returns c = holds c.walks_are_told.ensures
