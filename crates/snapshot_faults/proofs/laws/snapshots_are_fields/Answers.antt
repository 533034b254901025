use Rattle.snapshot_faults.proofs.Told.{snapshots_are_fields}
use Rattle.snapshot_faults.proofs.laws.snapshots_are_fields.Goals as goal

pub returns : goal.returns
returns c = snapshots_are_fields
