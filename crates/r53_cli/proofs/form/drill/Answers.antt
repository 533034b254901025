use Rattle.std.proofs.Common.{arith}
use Rattle.r53_cli.proofs.Forms.{two_have_none}
use Rattle.r53_cli.proofs.Numbers.{same_number}
use Rattle.r53_cli.proofs.form.drill.Goals as goal

pub returns-then-n-gt-MAX_EVENTS-clause-none : goal.returns-then-n-gt-MAX_EVENTS-clause-none
returns-then-n-gt-MAX_EVENTS-clause-none c =
    two_have_none c.args.word.now c.args.events.now (λ m word events few.
    let same =
    same_number c.args.events.now m c.in_ok-n.n (omega arith) (omega arith) events
    c.in_ok-n.ensures.some in
    omega arith)
