use Rattle.fault_places.proofs.Sets.{no_field_is_empty}
use Rattle.fault_places.proofs.laws.no_field_is_empty.Goals as goal

pub returns : goal.returns
returns c = no_field_is_empty
