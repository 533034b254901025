use Rattle.field_text.proofs.Spelled.{one_reading}
use Rattle.field_text.proofs.laws.one_reading.Goals as goal

pub returns : goal.returns
returns c = one_reading
