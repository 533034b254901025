use Rattle.std.specs.List.{Contains}
use Rattle.health_valves.proofs.Walks.{ranked_ends}
use Rattle.health_valves.proofs.laws.ranks_end_paths.Goals as goal

pub returns : goal.returns
returns c = λ fed rank bound is. ranked_ends (λ x. Contains (fed x)) rank bound is
