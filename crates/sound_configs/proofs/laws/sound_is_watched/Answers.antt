use Rattle.sound_configs.proofs.Bridges.{watched}
use Rattle.sound_configs.proofs.laws.sound_is_watched.Goals as goal

pub returns : goal.returns
returns c = watched
