use Rattle.store_model.proofs.Made as made
use Rattle.store_model.proofs.laws.plan_makes.Goals as goal

pub returns : goal.returns
returns c = made.plan_makes c.sound_are_bases.ensures
