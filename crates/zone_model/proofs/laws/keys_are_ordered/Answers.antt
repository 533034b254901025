use Rattle.zone_model.proofs.Ordered as ordered
use Rattle.zone_model.proofs.laws.keys_are_ordered.Goals as goal

pub returns : goal.returns
returns c = ordered.keys_are_ordered
