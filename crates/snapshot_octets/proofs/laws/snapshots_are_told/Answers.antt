use Rattle.snapshot_octets.proofs.Told.{snapshots_are_told}
use Rattle.snapshot_octets.proofs.laws.snapshots_are_told.Goals as goal

pub returns : goal.returns
returns c = snapshots_are_told c.written_reads_back.ensures c.sets_are_told.ensures
