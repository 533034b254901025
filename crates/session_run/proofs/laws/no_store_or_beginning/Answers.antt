use Rattle.session_run.proofs.Single.{none}
use Rattle.session_run.proofs.laws.no_store_or_beginning.Goals as goal

pub returns : goal.returns
returns c = none c.no_store_or_config.ensures
