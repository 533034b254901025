use Rattle.store_model.proofs.Faults as faults
use Rattle.store_model.proofs.laws.one_fault.Goals as goal

pub returns : goal.returns
returns c =
    faults.one_fault c.read_as_nothing_else.ensures c.one_outcome.ensures
    c.one_configuration.ensures
