use Rattle.sound_configs.proofs.Bridges.{served}
use Rattle.sound_configs.proofs.laws.sound_is_served.Goals as goal

pub returns : goal.returns
returns c = served
