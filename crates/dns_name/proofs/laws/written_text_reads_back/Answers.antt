use Rattle.dns_name.proofs.Written.{reads_back}
use Rattle.dns_name.proofs.laws.written_text_reads_back.Goals as goal

pub returns : goal.returns
returns c = reads_back
