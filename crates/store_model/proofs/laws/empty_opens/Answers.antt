use Rattle.store_model.proofs.Made as made
use Rattle.store_model.proofs.laws.empty_opens.Goals as goal

pub returns : goal.returns
returns c = made.empty_opens c.sound_are_bases.ensures c.empty_is_sound.ensures
