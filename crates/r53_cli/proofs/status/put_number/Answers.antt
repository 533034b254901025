use Rattle.std.proofs.Common.{arith, ◌∙◌}
use Rattle.r53_cli.proofs.Lines.{later_stays}
use Rattle.r53_cli.proofs.status.put_number.Goals as goal

pub returns-clause-rest : goal.returns-clause-rest
returns-clause-rest c =
    c.put_behind.ensures.rest
    ∙ (later_stays _ _ c.put_behind-end.result c.put_behind.result (omega (arith, c.put_behind.ensures.len))
    c.put_behind-end.ensures.rest
    ∙ later_stays _ _ c.put_behind-at.result c.put_behind.result
    (omega (arith, c.put_behind.ensures.len, c.put_behind-end.ensures.len))
    c.put_behind-at.ensures.rest)
