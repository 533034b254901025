use Rattle.choice_model.proofs.Bridged.{geolocation_sets}
use Rattle.choice_model.proofs.bridges.geolocation_choice.Goals as goal

pub returns : goal.returns
returns c = geolocation_sets
