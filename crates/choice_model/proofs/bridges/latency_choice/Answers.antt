use Rattle.choice_model.proofs.Bridged.{latency_sets}
use Rattle.choice_model.proofs.bridges.latency_choice.Goals as goal

pub returns : goal.returns
returns c = latency_sets
