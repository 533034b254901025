use Rattle.std.proofs.Common.{◌∙◌}
use Rattle.dns_name.proofs.Labels.{stored_over}
use Rattle.dns_name.proofs.name.Name.fill.Goals as goal

pub invariant_of-self : goal.invariant_of-self
invariant_of-self c =
    let r = c.requires.spelled in
    (stored_over _ _ _ _ r.0 c.self.invariant (c.self.view_is ∙ c.requires.root) r.1 r.2
    c.lower_into.ensures).0

pub returns : goal.returns
returns c = λ raw h e.
    (stored_over _ _ _ _ raw c.self.invariant (c.self.view_is ∙ c.requires.root) h e
    c.lower_into.ensures).1
