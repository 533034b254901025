use Rattle.session_run.proofs.Single.{one}
use Rattle.session_run.proofs.laws.one_beginning.Goals as goal

pub returns : goal.returns
returns c = one c.pair_opens_to_one_config.ensures c.one_shape.ensures
