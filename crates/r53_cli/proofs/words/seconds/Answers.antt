use Rattle.std.proofs.Common.{arith}
use Rattle.r53_cli.proofs.Numbers.{same_number}
use Rattle.r53_cli.proofs.words.seconds.Goals as goal

pub returns-then-n-gt2147483647-clause-none : goal.returns-then-n-gt2147483647-clause-none
returns-then-n-gt2147483647-clause-none c = λ m h e.
    let same =
    same_number c.args.text.now m c.in_ok-n.n (omega arith) (omega arith) e
    c.in_ok-n.ensures.some in
    omega arith
