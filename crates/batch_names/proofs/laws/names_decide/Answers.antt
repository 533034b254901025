use Rattle.batch_names.proofs.Deciding as deciding
use Rattle.batch_names.proofs.laws.names_decide.Goals as goal

pub returns : goal.returns
returns c = deciding.names_decide
