use Rattle.text_meanings.proofs.Told.{labels_spelled}
use Rattle.text_meanings.proofs.laws.labels_as_spelled.Goals as goal

pub returns : goal.returns
returns c = labels_spelled
