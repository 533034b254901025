use Rattle.std.proofs.Common.{arith, ap, length}
use Rattle.zone_lookup.proofs.served.can_answer.Goals as goal

pub returns-then-count-gt0 : goal.returns-then-count-gt0
returns-then-count-gt0 c =
    let count = c.count.ensures in
    let some = c.if-count-gt0.true in
    let few = c.has_few.ensures in (
      λ so. (λ none. let no = ap length none in absurd (omega (arith, count, some, no)), few.0 so),
      λ can. few.1 can.1,
    )
