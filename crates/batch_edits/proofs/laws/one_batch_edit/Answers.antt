use Rattle.batch_edits.proofs.Answering as answering
use Rattle.batch_edits.proofs.laws.one_batch_edit.Goals as goal

pub returns : goal.returns
returns c = answering.one_batch_edit
