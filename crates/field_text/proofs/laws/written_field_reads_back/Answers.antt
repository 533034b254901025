use Rattle.field_text.proofs.Backs.{spelled_back}
use Rattle.field_text.proofs.laws.written_field_reads_back.Goals as goal

pub returns : goal.returns
returns c = spelled_back
