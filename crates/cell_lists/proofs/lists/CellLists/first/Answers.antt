use Rattle.std.proofs.Common.{ap, ◌∙◌}
use Rattle.cell_lists.specs.Linked.{head_at}
use Rattle.cell_lists.specs.Lists.{Lists}
use Rattle.cell_lists.proofs.Linking.{first_as_told}
use Rattle.cell_lists.proofs.lists.CellLists.first.Goals as goal

pub returns-clause-within : goal.returns-clause-within
returns-clause-within c =
    first_as_told _ _ _ _ c.args.owner _ c.self.invariant (ap (λ (s : Lists). s.cells) c.self.view_is)
    (c.head_at-head.ensures ∙ ap (λ h. head_at h c.args.owner) c.deref.ensures.value) c.if-head-eq0.false
