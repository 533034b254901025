use Rattle.value_text.proofs.Digits.{reads_back}
use Rattle.value_text.proofs.laws.written_number_reads_back.Goals as goal

pub returns : goal.returns
returns c = reads_back
