use Rattle.store_model.proofs.Opened.{pair_opens_to_one_config}
use Rattle.store_model.proofs.laws.pair_opens_to_one_config.Goals as goal

pub returns : goal.returns
returns c =
    pair_opens_to_one_config c.read_as_nothing_else.ensures c.one_outcome.ensures
    c.one_configuration.ensures c.pair_opens_to_one.ensures
