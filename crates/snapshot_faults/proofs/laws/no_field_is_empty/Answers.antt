use Rattle.snapshot_faults.proofs.Told.{no_field_is_empty}
use Rattle.snapshot_faults.proofs.laws.no_field_is_empty.Goals as goal

pub returns : goal.returns
returns c = no_field_is_empty
