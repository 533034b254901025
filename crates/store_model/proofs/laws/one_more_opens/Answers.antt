use Rattle.store_model.proofs.Opened as opened
use Rattle.store_model.proofs.laws.one_more_opens.Goals as goal

pub returns : goal.returns
returns c = opened.one_more_opens
