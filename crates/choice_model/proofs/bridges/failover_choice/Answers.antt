use Rattle.choice_model.proofs.Bridged.{failover_sets}
use Rattle.choice_model.proofs.bridges.failover_choice.Goals as goal

pub returns : goal.returns
returns c = failover_sets
