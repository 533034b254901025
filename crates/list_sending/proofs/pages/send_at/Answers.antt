use Rattle.std.proofs.Common.{◌∙◌}
use Rattle.list_sending.proofs.pages.send_at.Goals as goal

pub returns-clause-passes : goal.returns-clause-passes
returns-clause-passes g c = λ set at.
    c.send_set.ensures.passes set (c.hold_at.ensures.held ∙ at)
