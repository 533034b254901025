use Rattle.health_index.proofs.Ready.{checks_can_follow, commands_can_follow}
use Rattle.health_index.proofs.laws.checks_can_follow.Goals as goal

pub returns-clause-checks : goal.returns-clause-checks
returns-clause-checks c = checks_can_follow

pub returns-clause-commands : goal.returns-clause-commands
returns-clause-commands c = commands_can_follow
