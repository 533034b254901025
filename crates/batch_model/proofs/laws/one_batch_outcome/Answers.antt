use Rattle.batch_model.proofs.Answering as answering
use Rattle.batch_model.proofs.laws.one_batch_outcome.Goals as goal

pub returns : goal.returns
returns c = answering.one_answer
