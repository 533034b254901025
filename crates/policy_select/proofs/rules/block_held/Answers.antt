use Rattle.policy_select.proofs.Choosing.{spelled_held}
use Rattle.policy_select.proofs.rules.block_held.Goals as goal

pub block_of_routing-requires-clause-spelled : goal.block_of_routing-requires-clause-spelled
block_of_routing-requires-clause-spelled c =
    spelled_held c.args.scratch.now c.routing.result c.requires.held c.held_is_spelled.ensures
    c.routing.ensures
