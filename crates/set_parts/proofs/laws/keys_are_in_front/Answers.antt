use Rattle.set_parts.proofs.Fronts.{keys_are_in_front}
use Rattle.set_parts.proofs.laws.keys_are_in_front.Goals as goal

pub returns : goal.returns
returns c = keys_are_in_front
