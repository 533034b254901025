use Rattle.check_model.proofs.Kept.{kept}
use Rattle.check_model.proofs.laws.commands_keep_sound.Goals as goal

pub returns : goal.returns
returns c = kept
