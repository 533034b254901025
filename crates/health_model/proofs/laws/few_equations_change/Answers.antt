use Rattle.health_model.proofs.Changing.{one_check, only_groups}
use Rattle.health_model.proofs.laws.few_equations_change.Goals as goal

pub returns : goal.returns
returns c = record { check = one_check; groups = only_groups }
