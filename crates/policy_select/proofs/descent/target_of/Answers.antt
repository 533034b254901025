use Rattle.policy_select.proofs.Targets.{target_of_held}
use Rattle.policy_select.proofs.descent.target_of.Goals as goal

pub returns-in-Some : goal.returns-in-Some
returns-in-Some c =
    target_of_held c.args.zones.now.zones c.args.zone c.args.scratch.now c.target_name.result
    c.in-Some.target c.rtype.result c.group.result c.target_name.ensures c.in-Some.is
    c.rtype.ensures c.group.ensures
