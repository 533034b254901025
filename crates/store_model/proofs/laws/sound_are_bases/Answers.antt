use Rattle.store_model.proofs.Made as made
use Rattle.store_model.proofs.laws.sound_are_bases.Goals as goal

pub returns : goal.returns
returns c = made.sound_are_bases c.sound_have_snapshots.ensures
