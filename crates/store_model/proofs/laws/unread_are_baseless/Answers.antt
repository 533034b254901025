use Rattle.store_model.proofs.Made as made
use Rattle.store_model.proofs.laws.unread_are_baseless.Goals as goal

pub returns : goal.returns
returns c = made.unread_are_baseless c.snapshots_read_back.ensures
