use Rattle.store_model.proofs.Faults as faults
use Rattle.store_model.proofs.laws.baseless_is_no_store.Goals as goal

pub returns : goal.returns
returns c = faults.baseless_is_no_store
