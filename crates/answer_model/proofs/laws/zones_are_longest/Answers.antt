use Rattle.answer_model.proofs.Zoning.{zones_are_longest}
use Rattle.answer_model.proofs.laws.zones_are_longest.Goals as goal

pub returns : goal.returns
returns c = zones_are_longest
