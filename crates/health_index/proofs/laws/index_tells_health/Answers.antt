use Rattle.health_index.proofs.Truth.{tells}
use Rattle.health_index.proofs.laws.index_tells_health.Goals as goal

pub returns : goal.returns
returns c = tells c.one_health.ensures c.views_agree.ensures
