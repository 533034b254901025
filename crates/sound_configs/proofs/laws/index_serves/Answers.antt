use Rattle.sound_configs.proofs.Serving.{index_serves as holds}
use Rattle.sound_configs.proofs.laws.index_serves.Goals as goal

pub returns : goal.returns
returns c = holds c.index_tells_health.ensures
