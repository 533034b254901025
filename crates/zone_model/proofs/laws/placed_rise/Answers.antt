use Rattle.zone_model.proofs.Staying.{placed_rising}
use Rattle.zone_model.proofs.laws.placed_rise.Goals as goal

pub returns : goal.returns
returns c = placed_rising
