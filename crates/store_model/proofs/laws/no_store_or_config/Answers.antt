use Rattle.store_model.proofs.Faults as faults
use Rattle.store_model.proofs.laws.no_store_or_config.Goals as goal

pub returns : goal.returns
returns c =
    faults.no_store_or_config c.read_as_nothing_else.ensures c.one_outcome.ensures
    c.one_configuration.ensures
