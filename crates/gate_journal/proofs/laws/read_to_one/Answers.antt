use Rattle.gate_journal.proofs.Reading.{read_to_one}
use Rattle.gate_journal.proofs.laws.read_to_one.Goals as goal

pub returns : goal.returns
returns c = read_to_one
