use Rattle.snapshot_faults.proofs.Told.{one_fault_of_snapshots}
use Rattle.snapshot_faults.proofs.laws.one_fault_of_snapshots.Goals as goal

pub returns : goal.returns
returns c = one_fault_of_snapshots
