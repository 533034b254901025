use Rattle.snapshot_octets.proofs.Told.{snapshots_read_back}
use Rattle.snapshot_octets.proofs.laws.snapshots_read_back.Goals as goal

pub returns : goal.returns
returns c = snapshots_read_back c.written_reads_back.ensures c.sets_are_told.ensures
