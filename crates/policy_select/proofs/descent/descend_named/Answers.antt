use Rattle.std.proofs.Common.{ℕ, List, ◌+◌, length, ap, sym, ◌∙◌}
use Rattle.answer_model.specs.Descent.{descend}
use Rattle.dns_name.specs.Labels.{wire}
use Rattle.policy_select.proofs.descent.descend_named.Goals as goal

pub descend_on-requires-clause-at : goal.descend_on-requires-clause-at
descend_on-requires-clause-at g c = λ set there.
    ap (λ (n : List (List ℕ)). length (wire n) + 2) (c.requires.named set there)
    ∙ sym c.place_behind-at.ensures

pub descend_on-requires-clause-held : goal.descend_on-requires-clause-held
descend_on-requires-clause-held g c = λ held. c.requires.held (c.is_held_first-held.ensures held)

pub returns-clause-gives : goal.returns-clause-gives
unfolding descend
returns-clause-gives g c = c.descend_on.ensures.gives
