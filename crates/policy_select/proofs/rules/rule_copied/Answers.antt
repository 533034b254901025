use Rattle.policy_select.proofs.rules.rule_copied.Goals as goal

pub returns : goal.returns
returns c =
    let it = c.policy_copied.ensures in
    (it.0, it.1, c.rule_in.ensures it.0.routing it.2.rest it.2.is it.2.same)
