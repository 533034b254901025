use Rattle.std.proofs.Common.{sym, ◌∙◌}
use Rattle.answer_model.specs.Descent.{descend}
use Rattle.policy_select.proofs.Policies.{by_held}
use Rattle.policy_select.proofs.descent.descend_held.Goals as goal

pub descend_on-requires-clause-at : goal.descend_on-requires-clause-at
descend_on-requires-clause-at g c =
    let first = c.requires.first in
    by_held c.args.zones.now.zones c.args.group c.requires.group c.args.scratch.now first.0
    c.policy_place-at.result first.1 first.2 c.policy_place-at.ensures

pub descend_on-requires-clause-held : goal.descend_on-requires-clause-held
descend_on-requires-clause-held g c = λ held. c.requires.first.2 ∙ sym c.requires.first.1

pub returns-clause-gives : goal.returns-clause-gives
unfolding descend
returns-clause-gives g c = c.descend_on.ensures.gives
