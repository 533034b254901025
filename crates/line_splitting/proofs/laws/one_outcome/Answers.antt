use Rattle.line_splitting.proofs.Answering.{one_answer}
use Rattle.line_splitting.proofs.laws.one_outcome.Goals as goal

pub returns : goal.returns
returns c = one_answer
