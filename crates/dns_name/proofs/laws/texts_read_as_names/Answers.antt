use Rattle.dns_name.proofs.Texts.{reads_names}
use Rattle.dns_name.proofs.laws.texts_read_as_names.Goals as goal

pub returns : goal.returns
returns c = reads_names
