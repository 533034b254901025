use Rattle.batch_model.proofs.Staying as staying
use Rattle.batch_model.proofs.laws.zones_stay.Goals as goal

pub returns : goal.returns
returns c = staying.zones_stay
