use Rattle.set_reading.proofs.Whole.{written_reads_back}
use Rattle.set_reading.proofs.laws.written_reads_back.Goals as goal

pub returns : goal.returns
returns c = written_reads_back c.fields_are_read.ensures
