use Rattle.snapshot_octets.proofs.Told.{one_configuration}
use Rattle.snapshot_octets.proofs.laws.one_configuration.Goals as goal

pub returns : goal.returns
returns c = one_configuration c.written_reads_back.ensures c.sets_are_told.ensures
