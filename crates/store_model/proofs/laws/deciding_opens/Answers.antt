use Rattle.store_model.proofs.Opened as opened
use Rattle.store_model.proofs.laws.deciding_opens.Goals as goal

pub returns : goal.returns
returns c = opened.deciding_opens
