use Rattle.store_model.proofs.Opened as opened
use Rattle.store_model.proofs.laws.opened_are_sound.Goals as goal

pub returns : goal.returns
returns c = opened.opened_are_sound c.taken_are_sound.ensures
