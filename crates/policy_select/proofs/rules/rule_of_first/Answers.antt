use Rattle.policy_select.proofs.rules.rule_of_first.Goals as goal

pub returns-in-Some : goal.returns-in-Some
returns-in-Some c =
    let set = c.policy_pieces.ensures in
    (set.0, set.1, c.in-Some.ensures set.0 set.2)
