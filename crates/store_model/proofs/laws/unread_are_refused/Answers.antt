use Rattle.store_model.proofs.Taken as taken
use Rattle.store_model.proofs.laws.unread_are_refused.Goals as goal

pub returns : goal.returns
returns c = taken.unread_are_refused c.read_as_nothing_else.ensures
