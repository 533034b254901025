use Rattle.sound_configs.proofs.Serving.{same_follow as holds}
use Rattle.sound_configs.proofs.laws.same_are_later.Goals as goal

pub returns : goal.returns
returns c = holds
