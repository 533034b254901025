use Rattle.snapshot_reading.proofs.Whole.{snapshots_read_in_parts}
use Rattle.snapshot_reading.proofs.laws.snapshots_read_in_parts.Goals as goal

pub returns : goal.returns
returns c = snapshots_read_in_parts c.written_reads_back.ensures c.sets_are_told.ensures
