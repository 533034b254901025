use Rattle.value_text.proofs.Writing.{reads_back}
use Rattle.value_text.proofs.laws.written_string_reads_back.Goals as goal

pub returns : goal.returns
returns c = reads_back
