use Rattle.std.proofs.Common.{arith, rules}
use Rattle.ecs_option.proofs.Subnets.{is_subnet}
use Rattle.ecs_option.proofs.reading.read.Goals as goal

pub returns-clause-subnet : goal.returns-clause-subnet
returns-clause-subnet c =
    is_subnet _ _ c.behind-used.result.now _ (omega arith) (search rules) (search rules)
    c.filled_up.ensures
