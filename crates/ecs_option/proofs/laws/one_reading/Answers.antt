use Rattle.ecs_option.proofs.Unmet as unmet
use Rattle.ecs_option.proofs.laws.one_reading.Goals as goal

pub returns : goal.returns
returns c = unmet.one_reading
