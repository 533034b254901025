use Rattle.store_model.proofs.Made as made
use Rattle.store_model.proofs.laws.compacted_opens.Goals as goal

pub returns : goal.returns
returns c = made.compacted_opens c.sound_are_bases.ensures
