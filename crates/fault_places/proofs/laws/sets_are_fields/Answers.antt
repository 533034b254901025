use Rattle.fault_places.proofs.Sets.{sets_are_fields}
use Rattle.fault_places.proofs.laws.sets_are_fields.Goals as goal

pub returns : goal.returns
returns c = sets_are_fields
